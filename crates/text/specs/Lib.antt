pub mod Forms
pub mod Parsing
pub mod Output
pub mod inner
