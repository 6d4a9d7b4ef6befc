-- What building promises, and what its inner functions ask and promise.
pub mod Standing
pub mod Sums
pub mod Rowed
pub mod Walk
pub mod Built
