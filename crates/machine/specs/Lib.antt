pub mod Clock
pub mod Play
pub mod Progress
pub mod Step
