-- How a turn is made.
pub mod Walks
