-- Lemmas about the names of rules and about the lists of what is told.
pub mod NameFacts
pub mod ToldFacts
