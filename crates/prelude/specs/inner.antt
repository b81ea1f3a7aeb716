pub mod Bump
