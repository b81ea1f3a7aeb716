pub mod Stream
pub mod Keeps
