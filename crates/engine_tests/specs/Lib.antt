pub mod Journals
pub mod Outside
