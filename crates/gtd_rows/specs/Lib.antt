pub mod Columns
pub mod KeptCodes
pub mod Serving
pub mod Table
pub mod Taking
pub mod facts
pub use Rattle.gtd_core.specs.Limits
