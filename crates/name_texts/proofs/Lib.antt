pub mod NameLaws
pub mod TextLaws
mod SideLaws
