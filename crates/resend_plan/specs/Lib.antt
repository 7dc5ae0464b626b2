pub mod Plan
pub mod Wire
pub mod Fit
