pub mod Words
pub mod Accepted
pub mod Refused
