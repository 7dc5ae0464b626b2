pub mod Closing
pub mod Recovered
pub mod Restarts
pub mod Revived
pub mod Sides
pub mod Starts
