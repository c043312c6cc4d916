pub mod HiddenLaws
pub mod WayLaws
pub mod ReadLaws
pub mod CutLaws
pub mod RateLaws
pub mod HighestLaws
