pub mod Subsets
pub mod Fits
pub mod Combination
pub mod Source
pub mod Names
