pub mod Putting
pub mod Run
pub mod RunFaultNames
pub mod facts
pub use Rattle.gtd_core.specs.Limits
pub use Rattle.gtd_records.specs.Closing
