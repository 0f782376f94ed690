pub mod TableFacts
pub mod RowFacts
pub mod PlaceFacts
