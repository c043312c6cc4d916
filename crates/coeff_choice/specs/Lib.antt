pub mod Choice
pub mod Choosing
