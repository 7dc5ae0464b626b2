pub mod Agreeing
pub mod Same
pub mod Proceeding
pub mod RoutedTo
pub mod Counting
pub mod Stopping
