pub mod Declined
pub mod Files
pub mod Sink
pub mod Relay
pub mod Chained
pub mod Working
pub mod Sourcing
