pub mod Relay
pub mod Feeding
pub mod Summands
pub mod Summed
