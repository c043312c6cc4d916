pub mod Blind
pub mod Ranked
pub mod Delivered
