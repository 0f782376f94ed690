pub mod Kinds
pub mod Words
pub mod Begins
pub mod Reading
pub mod Moving
pub mod facts
