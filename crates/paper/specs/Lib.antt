-- Document 01 written out, one file a section. A reader who believes these files and the contracts that cite them has nothing else to believe.
pub mod Limits
pub mod Refusal
pub mod Pattern
pub mod Layout
pub mod Check
pub mod Rows
pub mod Reading
pub mod Machine
pub mod Tables
pub mod Once
pub mod Match
pub mod Bounds
pub mod Template
pub mod Replace
pub mod ScanTurn
pub mod PieceCalls
