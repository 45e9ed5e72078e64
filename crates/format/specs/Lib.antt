-- The format of the archive, what its reader, its writer and a move to the other version answer, and where it is at fault.
pub mod Format
pub mod Refusals
pub mod Moves
pub mod First
pub mod Faults
