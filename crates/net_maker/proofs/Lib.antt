pub mod SubsetLaws
pub mod NameLaws
pub mod NetworkLaws
pub mod CombinationLaws
