-- Facts about plain lists and numbers that the functions' proofs cite: the table that building leaves is safe to run, and what a run of it finds.
pub mod Wiring
pub mod Running
pub mod Building
pub mod Only
