pub mod FieldLaws
pub mod RowLaws
pub mod CombinationLaws
pub mod DotLaws
pub mod MatrixLaws
pub mod EntryLaws
pub mod ElementsLaws
