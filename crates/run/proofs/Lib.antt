-- The laws that the answers cite, by topic.
pub mod Walk
pub mod Position
