pub mod Walks
pub mod Contents
pub mod Takes
pub mod Tested
pub mod Choices
pub mod Own
pub mod Looks
