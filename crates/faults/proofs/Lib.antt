-- The places by the version, the head's laws, what the bytes of a passed head hold, the searches, and the theorems about
-- what is found.
pub mod Numbers
pub mod Versions
pub mod HeadLaws
pub mod Held
pub mod Fed
pub mod Searched
pub mod Rows
pub mod Parts
pub mod Theorems
pub mod Judged
