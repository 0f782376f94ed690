pub mod LeafFacts
pub mod MonthFacts
