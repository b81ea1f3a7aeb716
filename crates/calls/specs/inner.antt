pub mod Lookup
pub mod Basket
