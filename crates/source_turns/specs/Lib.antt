pub mod Turns
pub mod Feeding
