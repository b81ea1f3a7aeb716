pub mod World
pub mod Plain
pub mod Consistency
pub mod Claims
pub mod Room
pub mod Map
pub mod Accepted
pub mod Baskets
