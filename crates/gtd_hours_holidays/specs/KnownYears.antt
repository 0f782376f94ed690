-- The years in which holidays and Easter are known.
use Rattle.std.specs.Prelude.{◌<◌, ◌≤◌, ◌+◌, ℕ, ℤ, pos, ◌≤ℤ◌, ◌<ℤ◌}
use Rattle.gtd_calendar.specs.Calendar.{first_day}

-- at most 98 years, from 1802 to 2797
abbrev pub AreKnown : ℕ → ℕ → Type 0
AreKnown first last = (1802 ≤ first) × (first ≤ last) × (last ≤ 2797) × (last < first + 98)

-- day n is one of these years
abbrev pub IsOfYears : ℕ → ℕ → ℤ → Type 0
IsOfYears first last n = (first_day (pos first) ≤ℤ n) × (n <ℤ first_day (pos (last + 1)))
