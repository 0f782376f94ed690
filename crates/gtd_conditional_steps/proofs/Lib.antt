pub mod ClosingLemmas
pub mod StepLemmas
pub mod ModeFacts
pub mod OrderFacts
pub mod TermLemmas
pub mod TwoWayLemmas
