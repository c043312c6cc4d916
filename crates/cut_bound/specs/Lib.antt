pub mod Hidden
pub mod Cuts
