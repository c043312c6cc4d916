pub mod Report
pub mod Batches
