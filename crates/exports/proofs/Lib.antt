-- The ways of each call. That each call settles its outcome stands in crate settled.
pub mod PlayWays
pub mod CopyWays
