pub mod Recorded
pub mod Relinked
pub mod Running
