pub mod ListFaults
pub mod Moved
pub mod Plans
