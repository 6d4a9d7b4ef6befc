-- Replace-all: the scan search by search, how long its output can be, and the bound on the sum of its steps.
pub mod ScanTurns
pub mod ScanWays
pub mod ScanLengths
pub mod Triangle
pub mod ReplaceBound
