pub mod Nesting
pub mod Parts
pub mod Pieces
pub mod ReadTerms
pub mod TermHours
pub mod TermNames
pub mod Terms
pub mod facts
