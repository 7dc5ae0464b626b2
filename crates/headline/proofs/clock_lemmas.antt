-- What the clock had told.
pub mod Phases
pub mod Books
pub mod Causes
pub mod Journals
pub mod Lines
pub mod Libraries
pub mod Opened
pub mod Waits
pub mod Walk
pub mod Driven
pub mod Refuted
pub mod Served
