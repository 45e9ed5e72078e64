-- The laws of a word's number and of the text, and computed examples.
pub mod Numbers
pub mod Decimals
pub mod Texts
pub mod Examples
