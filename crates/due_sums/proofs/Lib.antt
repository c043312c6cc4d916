pub mod CountLaws
pub mod DownLaws
pub mod GroupLaws
pub mod ReaderLaws
pub mod TableLaws
pub mod WaitingLaws
