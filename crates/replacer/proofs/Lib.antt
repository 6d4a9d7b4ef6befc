-- Laws of this crate that belong to no one function.
pub mod Scanning
pub mod Searching
pub mod Calling
pub mod Promises
