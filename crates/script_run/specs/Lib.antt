pub mod Comes
pub mod Calls
pub mod Runs
pub mod Means
pub mod Stops
