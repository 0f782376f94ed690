-- Lemmas about lines, paths, reading starts and what follows them, whole lines, and the laws of words and ends.
pub mod LineFacts
pub mod Paths
pub mod StartReading
pub mod RestReading
pub mod LineReading
pub mod WordsLaw
pub mod EndLaws
