-- Laws that belong to no one function.
pub mod Asked
pub mod Blocked
pub mod ByState
pub mod Cut
pub mod Filled
pub mod Found
pub mod Gather
