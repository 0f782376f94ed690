-- Lemmas on the length of the checked text and the places of rules, and that a text has one reading.
pub mod OneText
pub mod RulePlaces
