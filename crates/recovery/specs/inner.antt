pub mod Decide
pub mod Judge
pub mod Report
pub mod Scan
