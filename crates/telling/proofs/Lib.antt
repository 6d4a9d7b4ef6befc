-- What those who tell an answer cite: every refusal has a number of the sixteen.
pub mod Numbered
