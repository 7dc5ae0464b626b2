pub mod Journals
mod Outset
