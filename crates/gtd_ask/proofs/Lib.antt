-- Lemmas on answering questions: reading them, the answer and its line, and that there is one reading of each file.
pub mod AnswerFacts
pub mod AskFacts
pub mod HeldFacts
pub mod LineFacts
pub mod OneReading
pub mod ReadFacts
pub mod WalkFacts
