-- The laws that the answers cite, by topic.
pub mod Clearing
pub mod Stores
pub mod Stamps
pub mod Lasting
