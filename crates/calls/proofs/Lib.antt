-- Computed examples of the calls.
pub mod Examples
