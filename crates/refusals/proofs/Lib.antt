-- Computed claims of the definitions: each refusal, and which of two faults is told.
pub mod Refusals
