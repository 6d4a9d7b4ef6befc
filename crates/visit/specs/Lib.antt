-- What the contract of this crate speaks of: tables that a run can trust, and a visit.
pub mod Wired
pub mod Visits
