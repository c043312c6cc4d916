-- The command `sendtwo`.
pub mod Command
pub mod Runs
pub mod Changes
pub mod Due
pub mod Given
pub mod Ready
