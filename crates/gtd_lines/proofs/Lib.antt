-- Lemmas about counting line ends and about the places of records.
pub mod CountFacts
pub mod PlaceFacts
