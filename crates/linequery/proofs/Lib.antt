pub mod Queries
pub mod Agreement
pub mod Numbers
