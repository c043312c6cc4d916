pub mod ButterflyCode
pub mod OneLink
pub mod Butterfly
pub mod CutButterfly
pub mod WatchLaws
