-- What the contracts speak of.
pub mod Admin
pub mod Ask
pub mod Carry
pub mod Holding
pub mod Laws
pub mod Lines
pub mod Receive
pub mod Replies
pub mod Route
pub mod Runs
pub mod Said
pub mod State
pub mod Steps
pub mod Tasks
pub mod Tick
