pub mod Offsets
pub mod Fronts
pub mod Every
pub mod Items
pub mod Comments
pub mod Coming
pub mod facts
pub use Rattle.gtd_hours_tokens.specs.Lexing
