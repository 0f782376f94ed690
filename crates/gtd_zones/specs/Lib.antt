pub mod Zones
pub use Rattle.gtd_core.specs.Seconds
