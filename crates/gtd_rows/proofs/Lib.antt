-- The lemmas of the crate: tables and what is taken of them, lists of codes, and sets of numbers.
pub mod ListFacts
pub mod SortedSets
pub mod TableFacts
pub mod TakingFacts
