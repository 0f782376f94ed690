-- Lemmas on readings from token to token, and on texts with their pieces or first fault.
pub mod NoNext
pub mod EndingsOfParts
pub mod Endings
pub mod EachText
pub mod EndLemmas
pub mod FitsDecided
pub mod ReadLemmas
pub mod ReadingLemmas
pub mod SoundLemmas
