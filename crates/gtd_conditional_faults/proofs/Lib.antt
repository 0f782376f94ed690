-- Lemmas on lists of faults.
pub mod ListFacts
