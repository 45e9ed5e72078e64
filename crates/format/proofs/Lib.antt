-- Computed tables of the definitions.
pub mod Examples
pub mod WideExamples
pub mod MoveExamples
pub mod FaultExamples
