-- The text of a record, line by line.
pub mod Records
pub mod Room
pub mod Lines
pub mod Journals
pub mod Sessions
pub mod Connections
pub mod Calls
pub mod Report
pub mod Summary
