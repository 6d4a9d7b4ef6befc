-- What the printing functions promise.
pub mod Gathered
