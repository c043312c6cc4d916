pub mod HeldLaws
pub mod KeptLaws
pub mod OpeningLaws
pub mod PlaceLaws
pub mod SumLaws
pub mod TrafficLaws
