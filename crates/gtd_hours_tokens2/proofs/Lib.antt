-- The lemmas by which tokens are read from place to place of a text, and paired.
pub mod CursorLemmas
