pub mod RestartRule
