pub mod RefusalLaws
pub mod CodeWritingLaws
pub mod FinishLaws
pub mod ToolLaws
pub mod MadeLaws
pub mod TwinLaws
pub mod Writing
pub mod CombiningLaws
