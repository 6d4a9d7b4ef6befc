-- Facts about plain lists, numbers and trees that the functions' proofs cite.
pub mod Adding
pub mod Sizes
pub mod Views
pub mod Repeats
pub mod Records
pub mod Rows
pub mod Walked
pub mod Listing
pub mod Finished
