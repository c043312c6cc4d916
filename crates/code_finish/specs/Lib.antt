pub mod Taken
pub mod Solved
pub mod Finished
