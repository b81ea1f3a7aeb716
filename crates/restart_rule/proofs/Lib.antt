pub mod Ready
pub mod RestartRule
