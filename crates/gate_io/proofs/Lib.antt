pub mod WholeFacts
pub mod WireFacts
pub mod ClockFacts
