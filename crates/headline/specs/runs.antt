-- What a script that is carried out leaves.
pub mod Sides
pub mod Deeds
pub mod Accounted
pub mod Lives
pub mod Reports
pub mod Records
