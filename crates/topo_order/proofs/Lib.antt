pub mod OrderLaws
pub mod PlacingSteps
pub mod Passing
pub mod QueueSteps
pub mod LeavingSteps
pub mod BackSteps
pub mod ShownCycle
