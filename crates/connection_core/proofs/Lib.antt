pub mod Texts
pub mod Queue
pub mod Written
pub mod Making
pub mod Pieces
