pub mod Handle
pub mod Kept
pub mod Known
pub mod Open
pub mod Say
pub mod Store
pub mod Words
