-- Lemmas on the strict form as it grows part by part, on the hours or the fault that a loose text has, and that it has one of
-- them.
pub mod MendingLemmas
pub mod ReadingLemmas
pub mod OneReading
