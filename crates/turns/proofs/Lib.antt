-- Laws of this crate that belong to no one function.
pub mod Counting
pub mod PutIn
pub mod Written
