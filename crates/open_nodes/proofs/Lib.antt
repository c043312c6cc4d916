pub mod ErrorLaws
pub mod KindLaws
