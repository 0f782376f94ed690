-- Lemmas on what is none, and on the days of ranges.
pub mod DayLemmas
