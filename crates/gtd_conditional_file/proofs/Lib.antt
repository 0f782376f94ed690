-- Lemmas on when restrictions close, on the vehicle types of rows, on what is put of their lines, on the record file that this is,
-- and on what a run did and warned of.
pub mod AcceptedFacts
pub mod CloseFacts
pub mod NumberFacts
pub mod PutFacts
pub mod RunFacts
pub mod SoundFacts
pub mod WarnedFacts
