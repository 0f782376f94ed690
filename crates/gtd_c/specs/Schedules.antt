-- Schedules as texts.
use Rattle.std.specs.Prelude.{◌≡◌, ℕ, ℤ, List}
use Rattle.gtd_core.specs.Whole.{from_day, to_day}
use Rattle.gtd_core.specs.declared.horizon.Horizon.{Horizon}
use Rattle.gtd_records.specs.Closing.{Restriction}
use Rattle.gtd_report.specs.Putting.{text_of}
use Rattle.gtd_schedule.specs.Schedule.{IsSchedule}

-- the bytes are the schedule of the records for the vehicle type, from the one day up to the other
pub record IsScheduleText (found : List Restriction) (vehicle : ℕ) (from until : ℤ) (bytes : List ℕ) : Type 0 where
  pub horizon : Horizon
  pub begins : from_day horizon ≡ from
  pub ends : to_day horizon ≡ until
  pub lines : List (List ℕ)
  pub schedule : IsSchedule found vehicle horizon lines
  pub text : bytes ≡ text_of lines
