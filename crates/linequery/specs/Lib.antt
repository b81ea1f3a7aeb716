pub mod Query
pub mod Agreement
pub mod Numbers
