pub mod Order
pub mod Refusal
pub mod Placing
pub mod Queue
pub mod GoingBack
