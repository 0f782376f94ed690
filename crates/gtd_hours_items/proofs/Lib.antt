-- Lemmas on the tokens and the items that have been read.
pub mod TokenLemmas
pub mod ItemsLeft
pub mod ManyLemmas
