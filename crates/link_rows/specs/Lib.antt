pub mod LinkRows
pub mod Vectors
