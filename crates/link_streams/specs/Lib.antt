pub mod Streams
pub mod Reading
pub mod Held
pub mod Filled
pub mod Chained
pub mod Relaying
pub mod Gathering
