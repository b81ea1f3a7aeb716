pub mod Needs
pub mod List
