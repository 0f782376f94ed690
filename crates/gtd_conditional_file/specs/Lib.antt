pub mod Lists
pub mod Records
pub mod Run
pub mod Vehicles
pub mod Warned
pub use Rattle.gtd_migrate.specs.Migrated
pub use Rattle.gtd_records.specs.Closing
pub use Rattle.gtd_report.specs.Putting
