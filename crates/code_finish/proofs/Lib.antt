pub mod AddsUpLaws
pub mod TakenLaws
pub mod TakingLaws
pub mod DecodesLaws
pub mod DecoderLaws
pub mod SinkLaws
pub mod FinishLaws
pub mod OnceLaws
