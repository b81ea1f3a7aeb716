pub mod Waiting
pub mod Step
pub mod Stream
pub mod Lines
pub mod Rule
pub mod Printed
pub mod inner
