-- The laws that the functions of this crate are proved by.
pub mod Differing
pub mod Counting
pub mod Pairs
pub mod Walking
pub mod Turning
pub mod Answering
pub mod Impostors
