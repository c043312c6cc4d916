pub mod Joined
pub mod Separated
