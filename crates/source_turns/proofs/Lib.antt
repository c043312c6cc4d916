pub mod AppendLaws
pub mod CreateLaws
pub mod FedLaws
pub mod RunLaws
pub mod PieceLaws
