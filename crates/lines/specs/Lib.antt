-- The text that is printed of a played archive, and bytes added to a line in lent bytes.
pub mod Text
pub mod Add
