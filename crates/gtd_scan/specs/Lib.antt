pub mod Runs
pub mod Spaces
pub mod Tokens
pub mod facts
