pub mod Lists
pub mod Seats
pub mod TailSteps
pub mod HeadSteps
pub mod Meeting
pub mod Steps
pub mod Closing
