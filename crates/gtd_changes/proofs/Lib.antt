-- Lemmas on what two files say differently: their elements, the rows and seconds that differ, and the lines of it.
pub mod AnswerFacts
pub mod ChangeFacts
pub mod FormFacts
pub mod RangeFacts
pub mod RowFacts
pub mod SameFacts
pub mod SortedNumbers
pub mod SummaryFacts
pub mod LengthFacts
