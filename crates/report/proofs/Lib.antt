-- The laws of numbers in decimal, of bytes put one behind the other or added to a line, of a
-- book in parts.
pub mod Numbers
pub mod Puts
pub mod Adds
pub mod Parts
