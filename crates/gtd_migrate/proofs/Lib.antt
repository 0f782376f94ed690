-- Lemmas on the migrated file: its lines and how long they are, how it reads again, and how it is cut.
pub mod LineFacts
pub mod RowsFacts
pub mod TextFacts
pub mod CodesFacts
pub mod MigrateFacts
pub mod ClaimFacts
pub mod CutFacts
