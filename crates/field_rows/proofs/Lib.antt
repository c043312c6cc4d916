pub mod BytesLaws
pub mod ElementLaws
pub mod Halves
pub mod LookUps
pub mod Added
pub mod PairProducts
pub mod PairLanes
pub mod PlainSums
