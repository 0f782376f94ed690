pub mod Words
pub mod Clock
pub mod Signs
pub mod Tokens
pub mod Cursors
