pub mod CheckingLaws
pub mod ProductSteps
pub mod BatchSteps
