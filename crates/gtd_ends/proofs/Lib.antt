-- Lemmas about bounded numbers, days, dates, times of ends and the ranges of ends.
pub mod Bounded
pub mod DayFacts
pub mod Dates
pub mod EndTimes
pub mod EndRanges
