-- The laws of sets, by subject: members and bounds, sizes, the lowest member, members as numbers, the set of a test.
pub mod Laws
pub mod LawsSize
pub mod LawsLowest
pub mod LawsBit
pub mod LawsThose
