pub mod Pump
pub mod Laws
