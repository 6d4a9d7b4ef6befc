-- How the code's values are read as the definitions', what the inner functions promise, and the promise of replace-all.
pub mod Given
pub mod Scans
pub mod Answer
pub mod Promise
