pub mod Outset
pub mod Running
pub mod Begin
