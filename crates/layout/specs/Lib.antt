pub mod Bytes
pub mod Idle
pub mod Layout
pub mod Packed
pub mod Public
pub mod Stored
pub mod Words
