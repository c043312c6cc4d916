pub mod StepLaws
pub mod RefusalLaws
pub mod DoneLaws
pub mod ListedLaws
pub mod HeldLaws
pub mod FillingLaws
pub mod FeedingLaws
