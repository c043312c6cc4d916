pub mod Receiving
pub mod Sums
