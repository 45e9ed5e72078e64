-- The definitions of sets.
pub mod Sets
