-- The definitions of uncontended latency.
pub mod Latency
