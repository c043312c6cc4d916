pub mod Sending
pub mod Send
pub mod SendTwo
pub mod Demo
pub use Rattle.source_delivery.specs.Carried
pub use Rattle.source_delivery.specs.Streaming
pub use Rattle.source_delivery.specs.Turns
