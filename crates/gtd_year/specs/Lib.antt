pub mod Counts
pub mod YearTable
pub mod Theorem
pub use Rattle.gtd_calendar.specs.Calendar
pub use Rattle.gtd_records.specs.Closing
pub use Rattle.gtd_rows.specs.declared.direction.Direction
pub use Rattle.gtd_report.specs.Run
