pub mod Parsed
pub mod Storing
pub mod Decimals
pub mod defs
