-- Computed tables: what the definitions give beside what documents 01 and 02 say, row by row; and of L7 what the outputs in the way are,
-- which the code goes by. The theorems stand in crate theorems.
pub mod Made
pub mod RunCases
pub mod AnswerCases
pub mod RouterCases
pub mod RangeCases
pub mod RefusalCases
pub mod WideCases
pub mod Shown
pub mod ReadyCases
pub mod InputCases
pub mod PlaceCases
pub mod WorkCases
pub mod OwingCases
pub mod CodeCases
pub mod EditionCases
pub mod BranchCases
pub mod BranchRuns
pub mod Blocking
pub mod BlockingCases
pub mod ApartCases
