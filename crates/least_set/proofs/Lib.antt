pub mod WordLaws
pub mod OverLaws
pub mod MaskLaws
