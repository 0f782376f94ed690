-- Lemmas on stretches of years and weeks, and on every so many numbers.
pub mod PieceLemmas
pub mod WeekLemmas
pub mod YearLemmas
