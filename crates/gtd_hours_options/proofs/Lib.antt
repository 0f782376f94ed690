-- Lemmas on the hours and faults of texts with options, on texts without times, and on the one way in which texts are read.
pub mod Alike
pub mod AlikeDays
pub mod BadPlaces
pub mod MannerFacts
pub mod OneKnown
pub mod OneOptions
pub mod OneRules
pub mod OneWay
pub mod ReadingFacts
pub mod RuleFaults
pub mod WithoutTimes
