pub mod Keys
pub mod Rows
pub mod File
pub mod Groups
pub mod FaultTexts
pub mod TakenRows
pub use Rattle.gtd_rows.specs.Columns
