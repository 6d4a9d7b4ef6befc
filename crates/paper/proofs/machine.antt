-- The list machine: its places, its visits, that it gives the reading's answer, and the bound on its steps.
pub mod Tree
pub mod Grown
pub mod Sizes
pub mod Unfold
pub mod Static
pub mod Unseen
pub mod Visit
pub mod Run
pub mod MachineReads
pub mod Bound
pub mod Nested
pub mod Reached
pub mod Once
pub mod MovedMachine
