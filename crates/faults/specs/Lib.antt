-- What the searches ask of the bytes; what they find is said in crate format.
pub mod Head
pub mod Channels
