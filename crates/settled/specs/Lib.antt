-- What it is for a contract to settle its function's outcome.
pub mod Outcomes
