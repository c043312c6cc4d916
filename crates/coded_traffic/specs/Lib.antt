pub mod CodeBlocks
pub mod Traffic
pub mod RowLinks
