-- What the contracts speak of.
pub mod Kinds
pub mod Printed
pub mod Words
pub mod Args
pub mod SoFar
pub mod Grammar
pub mod Meaning
pub mod Lent
pub mod Laws
pub mod Lawful
