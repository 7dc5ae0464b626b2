pub mod OutsetLemmas
pub mod RunningLemmas
