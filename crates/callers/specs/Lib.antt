-- Two draws in a row, by single RUNs.
pub mod TwoDraws
