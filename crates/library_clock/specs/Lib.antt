pub mod Watched
pub mod Times
