-- What a script that is served leaves.
pub mod Planned
pub mod Driven
pub mod MetAll
pub mod Served
