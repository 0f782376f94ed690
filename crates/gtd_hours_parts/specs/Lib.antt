pub mod Dates
pub mod Numbers
pub mod Times
pub mod Pieces
pub mod SoundPieces
pub mod Values
pub use Rattle.gtd_hours.specs.Opening
pub use Rattle.gtd_hours.specs.Ranges
