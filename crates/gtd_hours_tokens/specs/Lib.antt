pub mod Lexing
pub mod TokenAt
pub mod Words
pub mod facts
pub use Rattle.gtd_scan.specs.Runs
pub use Rattle.gtd_scan.specs.Spaces
pub use Rattle.gtd_scan.specs.Tokens
