pub mod Allocation
pub mod inner
