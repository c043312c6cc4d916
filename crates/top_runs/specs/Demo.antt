-- The command `demo`.
pub mod Command
pub mod Given
pub mod Runs
pub mod Due
pub mod Ready
pub mod Tally
pub mod TallyLaws
