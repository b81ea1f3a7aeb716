pub mod Needs
pub mod Written
pub mod List
