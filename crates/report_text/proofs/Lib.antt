pub mod PrintableLaws
mod JoinSteps
mod Lengths
mod BatchLaws
