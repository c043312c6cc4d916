pub mod Heads
pub mod Fabric
pub mod Rows
pub mod Held
pub mod Ranks
pub mod Receiving
