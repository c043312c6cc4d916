pub mod Sevens
pub mod Networks
