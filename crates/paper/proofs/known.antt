-- Computed claims: 01's known answers and limits, and what they leave unseen.
pub mod Known
