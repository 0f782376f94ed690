pub mod DayFacts
pub mod KnownFacts
pub mod OneState
pub mod RowFacts
pub mod SomeState
