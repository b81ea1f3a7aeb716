pub mod defs
pub mod WrittenBack
pub mod PerLine
pub mod Flushes
pub mod Inside
pub mod Working
pub mod RestartRule
pub mod Decided
