-- Lemmas on dates, months, places in months and stretches of them, and on days that move or come each year.
pub mod DateLemmas
pub mod DayLemmas
pub mod MonthLemmas
pub mod MovingLemmas
pub mod PlaceLemmas
pub mod RangeLemmas
pub mod StretchLemmas
pub mod YearlyLemmas
