-- What a script that is served leaves.
pub mod Driven
pub mod Served
