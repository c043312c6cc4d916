pub mod RowLaws
pub mod BlockLaws
pub mod PieceLaws
pub mod SumLaws
pub mod KeyLaws
