pub mod TrafficLaws
pub mod WorkLaws
pub mod GivingLaws
pub mod FeedingLaws
pub mod PayloadLaws
pub mod SummandLaws
pub mod CameLaws
