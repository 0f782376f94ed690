pub mod English
pub mod Forms
pub mod French
pub mod German
pub mod Names
pub mod Shared
