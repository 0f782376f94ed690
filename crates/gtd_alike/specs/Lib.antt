pub mod Alike
pub mod Firsts
pub mod Ready
pub use Rattle.gtd_records.specs.Closing
