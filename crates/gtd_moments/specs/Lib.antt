pub mod Moments
pub use Rattle.gtd_core.specs.Seconds
pub use Rattle.gtd_calendar.specs.Read
