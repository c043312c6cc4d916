pub mod Bytes
pub mod Widths
pub mod Nibbles
pub mod Halves
pub mod Parted
pub mod Added
pub mod PairSums
