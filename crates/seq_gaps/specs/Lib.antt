pub mod Line
pub mod Offers
pub mod Calls
pub mod Early
pub mod Laws
