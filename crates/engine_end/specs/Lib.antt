pub mod Finishing
pub mod Happening
pub mod Meeting
pub mod Records
pub mod Room
pub use Rattle.library_desk.specs.declared.desk.Stray
