-- The theorems, a file for each crate, in the crates' order; Shown has how they are shown. Of a further public function: a
-- `use` line of its contract, the statement and the proof, in the file of its crate; of a further crate: a file of its own,
-- named here.
pub mod Shown
pub mod Told
pub mod Base
pub mod Sets
pub mod Draws
pub mod Latency
pub mod Types
pub mod Checks
pub mod Report
pub mod Archive
pub mod Faults
pub mod Rules
pub mod Machine
pub mod Words
pub mod Callers
pub mod Exports
