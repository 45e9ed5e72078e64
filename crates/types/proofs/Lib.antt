-- Computed tables of the numbers.
pub mod NumberCases
