pub mod Forms
pub mod Steps
pub mod Tokens
