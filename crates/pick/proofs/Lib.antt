-- Laws on the window's bytes.
pub mod Windows
