-- Document 01's definitions, in its order, but for the numbers of its types (crate types), sets (sets), draws (draws) and the
-- archive's bytes (format).
pub mod Types
pub mod Network
pub mod Range
pub mod Router
pub mod NetInput
pub mod Places
pub mod Steps
pub mod Events
pub mod Apart
pub mod Owing
pub mod Runs
pub mod Shapes
