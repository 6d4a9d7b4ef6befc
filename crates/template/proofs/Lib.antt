-- Laws on template records and pieces that belong to no one function.
pub mod Reading
pub mod Walks
pub mod Pieces
pub mod Promises
pub mod Impostors
