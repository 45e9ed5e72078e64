pub mod Events
pub mod Marked
pub mod Owing
pub mod Turned
