-- A law on what comes next in a job.
pub mod Comes
