pub mod Answers
pub mod Group
pub mod Known
pub mod Putting
pub mod Questions
pub mod Run
pub mod Sharing
pub mod Texts
pub mod Walks
pub use Rattle.gtd_core.specs.Seconds
pub use Rattle.gtd_records.specs.File
pub use Rattle.gtd_records.specs.Closing
pub use Rattle.gtd_report.specs.Run as ReportRun
