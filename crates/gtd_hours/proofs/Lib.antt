-- Bounds of the day numbers of dates from 1800 to 2799, so that sums and differences of them never overflow.
pub mod DateFacts
pub mod YearFacts
pub mod YearTwins
