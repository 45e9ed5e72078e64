-- Laws that belong to no one function.
pub mod Blocked
pub mod Entered
pub mod Lifts
pub mod OwingSums
pub mod PlayedArchive
pub mod PlayedMoved
pub mod PlayerAnswers
pub mod PlayerRoom
pub mod PlayerTurns
pub mod ProgressLaws
pub mod ProgressLawsBook
pub mod ProgressLawsEvents
pub mod ProgressLawsOrder
pub mod RangeAt
pub mod Ready
pub mod Seen
pub mod Single
