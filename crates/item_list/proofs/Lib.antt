pub mod Tests
pub mod Maps
pub mod Ranges
pub mod Writes
pub mod Places
pub mod Numbers
pub mod Positions
pub mod Results
