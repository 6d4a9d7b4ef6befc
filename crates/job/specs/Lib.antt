-- What comes next in a job.
pub mod Comes
