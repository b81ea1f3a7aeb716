pub mod Ways
pub mod CallEvent
