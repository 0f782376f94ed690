-- Lemmas on kinds and rules with more month days.
pub mod JoiningLemmas
pub mod MatchFacts
