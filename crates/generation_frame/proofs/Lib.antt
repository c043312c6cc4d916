pub mod BlockLaws
pub mod PieceLaws
pub mod FrameLaws
pub mod JoinLaws
