pub mod Dated
pub mod facts
pub use Rattle.gtd_calendar.specs.Calendar
pub use Rattle.gtd_calendar.specs.declared.day.DayFields
pub use Rattle.gtd_hours.specs.Opening
pub use Rattle.gtd_hours.specs.Writable
