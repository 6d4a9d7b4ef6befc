-- What the contracts of this crate speak of: how tables show a state of the machine, and the move at a place.
pub mod Shows
pub mod Moves
