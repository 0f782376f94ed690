-- Lemmas on what holds at a moment: which entries are put, their columns, and their objects, which read back.
pub mod Appending
pub mod ColumnFacts
pub mod Entries
pub mod LineFacts
pub mod NowFacts
pub mod ObjectFacts
pub mod ReadBack
pub mod ShownFacts
pub mod StampFacts
pub mod WantedFacts
