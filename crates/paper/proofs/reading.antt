-- The ordered reading: where its outcomes end, its passes, its rows, and the reading that starts inside a line.
pub mod Every
pub mod Invariant
pub mod First
pub mod Ends
pub mod Passes
pub mod ReadTurns
pub mod RowLaws
pub mod RowsKept
pub mod Untouched
pub mod AnswerRows
pub mod Moved
