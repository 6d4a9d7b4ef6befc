-- What the contracts of this crate cite beside `paper`.
pub mod Machine
pub mod Scratch
