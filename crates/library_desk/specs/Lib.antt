pub mod Happening
pub mod Owners
pub mod Serving
pub mod Stops
