pub mod Polled
pub mod Stages
pub mod Idle
pub mod Told
pub mod Vain
pub mod Runs
pub mod Waiting
