-- Proofs of the laws and of what is accepted, and known texts.
pub mod Completing
pub mod Accepting
pub mod KnownTexts
