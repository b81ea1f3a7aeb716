pub mod Invalidation
pub mod Recover
pub mod Represents
pub mod inner
