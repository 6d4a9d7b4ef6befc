-- How the code's values are read as the definitions', and what the functions are given and promise.
pub mod Accepted
pub mod Appended
pub mod Output
pub mod OutputLaws
pub mod Turn
