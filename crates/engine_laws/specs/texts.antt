-- What connections take of their texts, over turns.
pub mod Taken
pub mod Answered
