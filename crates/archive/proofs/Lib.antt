-- The laws of the format, and the theorems about reader, writer and moves.
pub mod Numbers
pub mod Holds
pub mod Values
pub mod Parts
pub mod Passed
pub mod RoundTripBytes
pub mod RoundTripRuns
pub mod Room
pub mod ReadLaws
pub mod Put
pub mod Answers
pub mod MoveLaws
pub mod MoveParts
pub mod Moved
