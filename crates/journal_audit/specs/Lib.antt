-- When a report is right.
pub mod Words
pub mod EntryLines
pub mod Cut
pub mod CallLines
pub mod Lines
pub mod Sessions
pub mod Seen
pub mod Rules
pub mod Verdicts
pub mod Journals
pub mod Called
pub mod Shown
pub mod Wrong
