-- The days of groups and of runs.
use Rattle.std.specs.Prelude.{◌⊎◌, ◌+◌, List, [], ◌∷◌, ℤ, pos, ◌+ℤ◌, ◌-ℤ◌, ◌≤ℤ◌, ◌<ℤ◌, ⊤}
use Rattle.gtd_calendar.specs.Calendar.{first_day}
use Rattle.gtd_hours_holidays.specs.KnownYears.{IsOfYears}
use Rattle.gtd_hours_holidays.specs.declared.known_years.KnownYears.{KnownYears}
use Rattle.gtd_hours_holidays.specs.declared.run.Run.{Run}
use Rattle.gtd_hours_days.specs.Groups.{IsOfGroup}
use Rattle.gtd_hours_days.specs.declared.group.Group.{Group}

-- day n is one of the run's
abbrev pub IsOfRun : Run → ℤ → Type 0
IsOfRun run n = (run.first ≤ℤ n) × (n ≤ℤ run.last)

-- it is a day of one of the groups, or of one of the runs
abbrev pub SomeGroup : List Group → ℤ → Type 0
SomeGroup [] n = ⊥
SomeGroup (group ∷ groups) n = IsOfGroup group n ⊎ SomeGroup groups n

abbrev pub SomeRun : List Run → ℤ → Type 0
SomeRun [] n = ⊥
SomeRun (run ∷ runs) n = IsOfRun run n ⊎ SomeRun runs n

-- the run has at most 36,600 days; each of the runs has
abbrev pub IsShort : Run → Type 0
IsShort run = run.last <ℤ (run.first +ℤ pos 36600)

abbrev pub AreShort : List Run → Type 0
AreShort [] = ⊤
AreShort (run ∷ runs) = IsShort run × AreShort runs

-- the day is one of the groups in the years, or of the runs
abbrev pub IsWritten : KnownYears → List Group → List Run → ℤ → Type 0
IsWritten years yearly dated n = (IsOfYears years.first years.last n × SomeGroup yearly n) ⊎ SomeRun dated n

-- the day is at most 366 days before or after the years
abbrev pub IsNear : KnownYears → ℤ → Type 0
IsNear years n = (first_day (pos years.first) ≤ℤ (n +ℤ pos 366)) × ((n -ℤ pos 366) <ℤ first_day (pos (years.last + 1)))
