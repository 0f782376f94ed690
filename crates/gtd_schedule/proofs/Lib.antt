-- Lemmas on schedules: their lines and the moments in them, that there is exactly one, and how parts make a whole.
pub mod SpanLines
pub mod SomeSchedule
pub mod ScheduleFacts
pub mod HandedFacts
pub mod MonthDays
pub mod Pairs
pub mod MomentParts
pub mod FirstMoments
pub mod CursorFacts
pub mod ShortLines
pub mod SplitFacts
pub mod OrderFacts
pub mod HeadlineFacts
