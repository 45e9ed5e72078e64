-- The theorems about uncontended latency, and computed examples.
pub mod Compared
pub mod Examples
pub mod Limits
