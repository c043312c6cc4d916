pub mod Filling
pub mod Handles
