-- What laying promises, and what it asks.
pub mod Room
pub mod Laid
pub mod Lent
pub mod Single
pub mod Places
pub mod Copies
pub mod Repeats
