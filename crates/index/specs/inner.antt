pub mod Build
pub mod Lookup
pub mod Parts
pub mod Basket
