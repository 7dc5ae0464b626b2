-- What connections take of their texts, over turns.
pub mod Frames
pub mod Standing
pub mod Steps
pub mod Writing
pub mod Taking
pub mod Turns
pub mod Told
pub mod Said
pub mod Dialled
pub mod Heard
pub mod Walk
