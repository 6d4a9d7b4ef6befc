-- How the types of this crate are read.
pub mod Record
pub mod Records
pub mod Answer
