pub mod Gathers
pub mod GoingOn
pub mod Grants
pub mod Happened
pub mod InStep
pub mod Takes
