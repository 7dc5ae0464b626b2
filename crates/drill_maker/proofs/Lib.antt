-- Lemmas.
pub mod Lengths
pub mod Ranges
pub mod Configured
pub mod Lawful
