-- Lemmas of this crate.
pub mod Output
