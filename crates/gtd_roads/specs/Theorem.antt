-- The theorem. Its first claim is the headline, of `run_schedule`:
--
--   For every restriction file of the profile, horizon and vehicle type, the schedule printed from the file's bytes shows a
--   road element of the file open in a direction at a second exactly if no record whose time domain contains that second
--   closes it, in ordered, disjoint, maximal intervals; any other file prints nothing and is refused by its first fault.
--
-- Beside it are the claims of `run_year`, for the table of a year, and of `run_migrate`, for files of version 2. Each is a
-- definition in the crate whose run is proved to meet it, since a contract can cite only what is below it: read them there.
pub use Rattle.gtd_schedule.specs.Theorem.{Headline}
pub use Rattle.gtd_year.specs.Theorem.{YearClaim, IsNamed}
pub use Rattle.gtd_migrate.specs.Theorem.{MigrationClaim}
