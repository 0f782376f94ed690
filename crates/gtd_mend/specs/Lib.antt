pub mod Answer
pub mod Cutting
pub mod Decoding
pub mod Fields
pub mod Lines
pub mod Mended
pub mod Reading
pub mod Run
pub mod Standing
pub use Rattle.gtd_core.specs.Limits
pub use Rattle.gtd_faults.specs.Hints
pub use Rattle.gtd_faults.specs.Listing as FaultListing
pub use Rattle.gtd_faults.specs.Places
pub use Rattle.gtd_faults.specs.Run as FaultRun
pub use Rattle.gtd_records.specs.Closing
pub use Rattle.gtd_rows.specs.Columns
pub use Rattle.gtd_records.specs.Cut
pub use Rattle.gtd_records.specs.File
pub use Rattle.gtd_report.specs.Putting
