pub mod Stored
pub mod Pages
pub mod Series
pub mod Growth
pub mod Stretches
pub mod OutLog
