pub mod Spans
pub mod Reduced
pub mod Decided
