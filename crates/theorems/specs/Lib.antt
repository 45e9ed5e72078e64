-- The model's types, under the names that the definitions have for them.
pub mod Names
