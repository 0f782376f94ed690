pub mod Leaves
pub mod facts
pub use Rattle.gtd_core.specs.Ranges as StartRanges
pub use Rattle.gtd_core.specs.Seconds
pub use Rattle.gtd_core.specs.Trees
pub use Rattle.gtd_calendar.specs.ComputedFields
pub use Rattle.gtd_recur.specs.FieldMatches
pub use Rattle.gtd_spans.specs.Normal
pub use Rattle.gtd_eval.specs.Membership
pub use Rattle.gtd_hours.specs.Cost
pub use Rattle.gtd_hours.specs.Opening
pub use Rattle.gtd_hours.specs.Ranges
