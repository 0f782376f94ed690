pub mod EachOnce
pub mod GroupFacts
pub mod ModeFacts
pub mod RowFacts
pub mod SeenFacts
pub mod TakenFacts
