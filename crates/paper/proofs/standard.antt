-- The standard: ECMA-262's own matcher and search as second definitions, and that they answer as the ordered reading does.
pub mod Ecma
pub mod EcmaReading
pub mod EcmaSearch
