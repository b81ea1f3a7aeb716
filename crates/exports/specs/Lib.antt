pub mod Call
pub mod Count
pub mod State
pub mod Invalidation
pub mod Book
pub mod Basket
