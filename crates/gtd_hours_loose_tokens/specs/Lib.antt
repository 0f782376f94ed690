pub mod Words
pub mod Signs
pub mod Clock
pub mod Lexing
pub mod Stops
