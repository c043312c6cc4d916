pub mod Chains
pub mod Wiring
