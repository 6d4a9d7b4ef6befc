-- What the contracts of this crate speak of: one position of the line, and the whole of it.
pub mod Steps
