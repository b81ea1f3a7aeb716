pub mod Report
pub mod Blocks
pub mod inner
