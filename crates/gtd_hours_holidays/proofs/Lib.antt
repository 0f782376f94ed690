-- Lemmas on days of the calendar and marks in a set, on rows of a table, on runs of days, and on Easter.
pub mod DateFacts
pub mod MarkFacts
pub mod TableFacts
pub mod RowFacts
pub mod HolidayFacts
pub mod MergedFacts
pub mod EasterFacts
pub mod RunFacts
pub mod YearFacts
