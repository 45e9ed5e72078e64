-- The number that a word says, and the text of the four latencies.
pub mod Words
pub mod Text
