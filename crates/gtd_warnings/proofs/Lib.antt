-- Lemmas about codes, vehicle types, days, expressions that are over, known domains, rows and their reading, and that each file
-- has one answer.
pub mod CodeFacts
pub mod DayFacts
pub mod EndFacts
pub mod EndTimes
pub mod KnownFacts
pub mod OneAnswer
pub mod OverFacts
pub mod ReadFacts
pub mod RowFacts
pub mod VehicleFacts
pub mod YearFacts
