-- The command `compile`.
pub mod Command
pub mod Made
pub mod Given
pub mod Ready
