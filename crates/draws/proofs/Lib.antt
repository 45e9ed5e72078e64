-- The laws of draws.
pub mod Laws
