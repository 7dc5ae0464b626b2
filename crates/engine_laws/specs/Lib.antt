pub mod libraries
pub mod texts
pub mod walks
pub mod Account
pub mod Stopped
pub mod Turns
