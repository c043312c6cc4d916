pub mod Rows
pub mod Matrices
pub mod Elements
