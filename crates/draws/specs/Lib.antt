-- The definitions of draws.
pub mod Draws
