pub mod CallLaws
pub mod LooseSteps
pub mod SlotSteps
