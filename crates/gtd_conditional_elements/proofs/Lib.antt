-- Lemmas on the values of tags, on the rows of elements, on how many there are, and on warnings.
pub mod Bounds
pub mod ElementFacts
pub mod FileFacts
pub mod ValueFacts
pub mod WarningFacts
