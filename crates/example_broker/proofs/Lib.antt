pub mod Answered
pub mod Driven
pub mod Ends
pub mod Fills
pub mod Moves
