pub mod OrderFacts
pub mod PlaceFacts
