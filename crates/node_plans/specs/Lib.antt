pub mod Plans
pub mod Listed
pub mod SinkPlaces
pub mod Wired
