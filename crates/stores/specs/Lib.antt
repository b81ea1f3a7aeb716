pub mod Store
pub mod Written
pub mod Basket
pub mod Invalidation
pub mod Cut
pub mod Play
pub mod inner
