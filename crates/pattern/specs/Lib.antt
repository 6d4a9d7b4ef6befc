-- What the contracts of this crate cite beside `paper`.
pub mod Answer
pub mod Kinds
pub mod Refusals
pub mod Walk
