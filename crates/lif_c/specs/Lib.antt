pub mod Boxes
pub mod Calls
pub mod Held
pub mod Refusals
pub mod Slots
pub mod Statuses
pub mod Writing
