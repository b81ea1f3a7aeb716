pub mod Counts
pub mod VoidRecords
pub mod Accepted
pub mod Answers
