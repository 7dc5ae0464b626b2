pub mod Rising
pub mod Maps
pub mod Told
pub mod Lines
pub mod Places
pub mod Order
pub mod LawsOfLines
