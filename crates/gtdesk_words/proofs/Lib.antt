-- Lemmas on the words for times, and on the parts of a text that commas separate: numbers, and names of rules.
pub mod ClockFacts
pub mod NumberFacts
pub mod RuleFacts
