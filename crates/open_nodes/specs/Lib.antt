pub mod Errors
pub mod Opening
pub mod NodeCalls
pub mod SinkCalls
pub mod Shapes
pub mod Fields
