pub mod Lines
pub mod Turns
pub mod Plans
pub mod Calls
pub mod Ends
pub mod Stages
pub mod Waits
