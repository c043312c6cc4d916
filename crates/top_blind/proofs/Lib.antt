pub mod OutputLaws
pub mod PieceLaws
pub mod BlindLaws
pub mod BlindDelivered
