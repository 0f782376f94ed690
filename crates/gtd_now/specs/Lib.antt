pub mod Lines
pub mod Now
pub mod ObjectTokens
pub mod Objects
pub mod Query
pub mod Reasons
pub mod Run
pub mod Table
pub use Rattle.gtd_core.specs.Seconds
pub use Rattle.gtd_core.specs.Limits
pub use Rattle.gtd_lines.specs.Lines as FileLines
pub use Rattle.gtd_records.specs.Closing
pub use Rattle.gtd_report.specs.Run as ReportRun
pub use Rattle.gtd_spans.specs.Change
pub use Rattle.gtd_states.specs.Lines as StateLines
pub use Rattle.gtd_states.specs.States
pub use Rattle.gtd_warnings.specs.Vehicles
