pub mod Walk
pub mod Takeable
pub mod Choice
