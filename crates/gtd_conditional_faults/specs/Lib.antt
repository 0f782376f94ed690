pub mod Accepted
pub mod Listing
pub mod Places
pub mod Words
