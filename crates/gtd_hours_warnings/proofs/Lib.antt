-- Rules that hide hours come after another one; what is added to the warnings of a text, and to those of a text with marks; one
-- list of rules that say days alone.
pub mod MarkFacts
pub mod OneList
pub mod RuleFacts
pub mod WarningFacts
pub mod UnknownFacts
