pub mod Indexed
pub mod Pairs
