pub mod Quiet
pub mod Coming
pub mod Outset
pub mod Waited
pub mod Least
pub mod Kept
pub mod Stopped
