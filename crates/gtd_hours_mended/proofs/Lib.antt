-- Lemmas on how selectors are written, on the rules of a text, on its comments, and that it has one mended text.
pub mod AlikeRules
pub mod MakingFacts
pub mod MendingFacts
pub mod OneFault
pub mod OneMended
pub mod Quotes
pub mod ReadKinds
pub mod SoundQuotes
