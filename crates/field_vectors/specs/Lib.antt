pub mod Elements
pub mod Grid
pub mod Cut
pub mod Difference
pub mod Elimination
pub mod Inverse
pub mod Refusal
