pub mod SumSteps
pub mod LinkLaws
pub mod WideLaws
