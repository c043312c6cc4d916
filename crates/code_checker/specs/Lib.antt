pub mod Checking
pub mod First
