pub mod Standing
pub mod Adding
pub mod Drafts
pub mod Reading
pub mod Room
pub use Rattle.gtd_hours_grammar.specs.Faults
pub mod facts
