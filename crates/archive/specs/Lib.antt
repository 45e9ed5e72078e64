-- What the code of reader and writer needs; the format itself is in crate format.
pub mod Code
