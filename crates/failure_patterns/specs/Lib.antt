pub mod Batches
pub mod Demands
pub mod UsedField
pub mod Rate
pub mod First
