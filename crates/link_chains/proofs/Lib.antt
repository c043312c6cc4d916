pub mod WiringLaws
pub mod ChainSteps
