-- Computed tables over the definitions of this crate.
pub mod Numbers
