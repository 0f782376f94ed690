-- Lemmas on points of time, on texts of forms as they grow, and that a text is read in one way.
pub mod PlaceLemmas
pub mod PointLemmas
pub mod DailyLemmas
pub mod MeaningLemmas
pub mod OneText
pub mod WrittenLemmas
