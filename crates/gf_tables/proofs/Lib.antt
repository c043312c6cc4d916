pub mod KindField
