-- What the functions of the job's window ask and promise.
pub mod Window
