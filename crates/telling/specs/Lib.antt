-- What the contracts of telling cite.
pub mod Told
