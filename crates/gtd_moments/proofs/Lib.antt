-- Lemmas about the forms of a moment and how each is spelled out in full.
pub mod Forms
pub mod Spelled
