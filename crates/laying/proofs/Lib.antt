-- Facts about plain lists, numbers and written-out patterns that the functions' proofs cite.
pub mod Stores
pub mod Entering
pub mod Single
pub mod Copying
pub mod Sizes
pub mod Passing
