-- How the enum of this crate is read.
pub mod Header
