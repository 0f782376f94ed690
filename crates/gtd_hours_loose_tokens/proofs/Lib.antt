-- The lemmas by which tokens are read from place to place of a text.
pub mod LexingLemmas
