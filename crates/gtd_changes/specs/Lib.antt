pub mod Changes
pub mod Compared
pub mod Forms
pub mod Merging
pub mod Rows
pub mod Run
pub mod Same
pub mod Summary
pub mod facts
pub use Rattle.gtd_core.specs.declared.horizon.Horizon
pub use Rattle.gtd_records.specs.File
pub use Rattle.gtd_records.specs.Closing
pub use Rattle.gtd_report.specs.Run as ReportRun
