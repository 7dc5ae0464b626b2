pub mod CountOff
pub mod Days
pub mod Drafts
pub mod Ended
pub mod Faults
pub mod Numbers
pub mod OneField
pub mod Plain
mod Rows
pub mod Splits
pub mod Tags
pub mod Stamps
pub mod Unfit
pub mod WholeBody
