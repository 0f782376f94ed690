-- Lemmas on sets of days: holidays added to them, what a table covers, and how they are written in groups and runs.
pub mod AdditionFacts
pub mod CoverFacts
pub mod CoverageFacts
pub mod DateFacts
pub mod EasterFacts
pub mod OneGrouping
pub mod OrderFacts
pub mod SplitFacts
pub mod YearlyFacts
