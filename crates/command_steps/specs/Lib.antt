pub mod Steps
pub mod Listed
pub mod Filling
pub mod Feeding
