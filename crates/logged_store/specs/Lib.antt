pub mod Events
pub mod Logs
pub mod LogLaws
