pub mod Step
pub mod Rule
