-- Lemmas of the run, of where it stops, and of tokens ahead.
pub mod Ahead
pub mod Running
pub mod Stopping
