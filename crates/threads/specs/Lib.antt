-- What the contracts of this crate speak of: threads in a lent list, and tables of stamps.
pub mod Threads
pub mod Memory
