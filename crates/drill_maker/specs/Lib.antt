-- The script of a drill.
pub mod Bodies
pub mod Drill
