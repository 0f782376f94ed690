pub mod Elements
pub mod Faults
pub mod File
pub mod FileClosing
pub mod Values
pub mod Warnings
pub use Rattle.gtd_core.specs.Limits
