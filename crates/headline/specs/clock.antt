-- What the clock had told.
pub mod Waited
pub mod TakenBack
pub mod Kept
pub mod Wrong
