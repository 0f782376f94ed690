-- Lemmas on parts.
pub mod PartFacts
pub mod LowerFacts
