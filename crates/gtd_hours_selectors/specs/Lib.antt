pub mod Days
pub use Rattle.gtd_core.specs.Trees
pub use Rattle.gtd_hours.specs.Cost
pub use Rattle.gtd_hours.specs.Moving
pub use Rattle.gtd_hours.specs.Opening
pub use Rattle.gtd_hours.specs.Ranges
pub use Rattle.gtd_hours_leaves.specs.Leaves
