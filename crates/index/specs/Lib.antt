pub mod Index
pub mod Walk
pub mod Change
pub mod Chained
pub mod Linked
pub mod Allocation
pub mod Basket
pub mod inner
