pub mod ListLaws
pub mod OrderLaws
pub mod InputLaws
pub mod PlanLaws
pub mod ListedLaws
pub mod SinkLaws
pub mod WiringLaws
