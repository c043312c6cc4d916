pub mod Core
pub mod Runs
