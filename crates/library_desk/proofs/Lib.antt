pub mod Cursors
pub mod Links
pub mod Owned
pub mod Pumped
pub mod Running
pub mod Stopped
