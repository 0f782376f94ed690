pub mod Answers
pub mod Buckets
pub mod Findings
pub mod Firsts
pub mod Kin
pub mod Known
pub mod Listing
pub mod Numbers
pub mod Run
pub mod Sameness
pub mod Spans
pub mod Without
pub use Rattle.gtd_core.specs.Seconds
pub use Rattle.gtd_core.specs.Parts
pub use Rattle.gtd_difference.specs.Difference
pub use Rattle.gtd_eval.specs.Membership
pub use Rattle.gtd_faults.specs.Listing as FaultListing
pub use Rattle.gtd_lines.specs.Lines
pub use Rattle.gtd_records.specs.Closing
pub use Rattle.gtd_records.specs.File
pub use Rattle.gtd_report.specs.Run as ReportRun
