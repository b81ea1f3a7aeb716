pub mod Counts
pub mod Steps
pub mod Lines
pub mod TraceRule
