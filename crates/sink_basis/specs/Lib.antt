pub mod Basis
pub mod Renewal
