pub mod Dials
pub mod Fresh
pub mod Lines
pub mod Places
pub mod Planned
pub mod Steps
pub mod Texts
pub mod Stops
