-- Lemmas on the rows of a file of hours as read, translated and put, on its faults, its warnings, and its one answer.
pub mod EachFile
pub mod ListFacts
pub mod OneAnswer
pub mod OpeningFacts
pub mod PutFacts
pub mod ReadFacts
pub mod RowFacts
pub mod RunFacts
pub mod ShortFields
pub mod TranslatedFacts
pub mod WarningFacts
