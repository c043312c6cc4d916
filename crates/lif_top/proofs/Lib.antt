pub mod CommandLaws
pub mod Promising
pub mod WordLaws
