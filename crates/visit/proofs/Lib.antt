-- The laws that the answers cite, by topic.
pub mod Cells
pub mod Waiting
pub mod Turns
pub mod Loop
