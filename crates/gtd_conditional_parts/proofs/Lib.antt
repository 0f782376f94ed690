pub mod PartSteps
pub mod PieceFacts
pub mod TermSteps
pub mod ValueSteps
