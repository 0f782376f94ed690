pub mod Forms
pub mod Order
pub mod Years
pub use Rattle.gtd_core.specs.Parts
pub use Rattle.gtd_eval.specs.Membership
pub use Rattle.gtd_hours.specs.Opening
