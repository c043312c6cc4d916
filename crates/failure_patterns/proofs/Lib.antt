pub mod RateLaws
pub mod ListLaws
pub mod DemandLaws
pub mod BatchLaws
pub mod FirstLaws
