-- Lemmas on the tokens of texts: that they are a language, and what has been read of a text.
pub mod TokenLemmas
