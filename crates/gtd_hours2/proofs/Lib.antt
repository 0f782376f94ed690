-- Lemmas of stored rules and of lists of parts.
pub mod Apart
pub mod Listing
pub mod Storing
pub mod Tables
