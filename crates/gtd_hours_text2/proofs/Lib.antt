-- Lemmas of dates, of numbers in brackets, and of what is read.
pub mod CalendarFacts
pub mod Numbering
pub mod Answering
