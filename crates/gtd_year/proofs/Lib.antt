-- Lemmas on the table of a year: the lines of its days, that there is one table, and the claims of the run as one.
pub mod DayFacts
pub mod SomeTable
pub mod YearFacts
pub mod WeeklyFacts
pub mod CountLists
pub mod ClaimFacts
