-- What the contracts speak of.
pub mod Body
pub mod Builder
pub mod Calendar
pub mod Field
pub mod FirstFault
pub mod Fit
pub mod Laws
pub mod Number
pub mod Options
pub mod Pairs
pub mod Printed
pub mod Reading
pub mod Stamp
pub use Rattle.fix_frame.specs.Frame
