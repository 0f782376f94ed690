-- The lemmas of the crate: cursors and their leaves, spans that repeat, and how long sets of seconds stay as they are.
pub mod BoundFacts
pub mod ExtentLemmas
pub mod JoinedStays
pub mod FitLemmas
pub mod GapFacts
pub mod Leaves
pub mod OnwardFacts
pub mod PeriodChanges
pub mod SkipLengths
pub mod StayDays
pub mod StayEnds
pub mod Unions
pub mod WithinFacts
