-- The laws that the answers cite, by topic.
pub mod Ranges
pub mod PlaceKinds
pub mod Moving
pub mod Carrying
pub mod Ending
