-- Names of the declared types, document 01's numbers for them, and what a state and a terminator tell.
pub mod Names
pub mod Numbers
pub mod Phases
