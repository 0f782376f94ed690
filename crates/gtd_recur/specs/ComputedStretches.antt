-- The seconds of a basic domain, computed. A law of this crate says that they are the seconds of the basic domain.
use Rattle.std.specs.Prelude.{◌≡◌, ℕ, ◌<◌, true, false, Option, Some, None, ℤ, pos, ◌+ℤ◌, ◌*ℤ◌, ◌≤ℤ◌, ◌<ℤ◌, IsTrue}
use Rattle.gtd_core.specs.Limits.{day_seconds}
use Rattle.gtd_core.specs.declared.start.StartParts.{StartParts}
use Rattle.gtd_core.specs.declared.duration.DurationParts.{DurationParts}
use Rattle.gtd_core.specs.Seconds.{day_of_second}
use Rattle.gtd_calendar.specs.ComputedEnds.{stop}
use Rattle.gtd_recur.specs.Begins.{begins, begins_at}

-- a stretch begins at b, and its computed end is after second s
abbrev pub IsHeldToStop : StartParts → DurationParts → ℤ → ℤ → Type 0
IsHeldToStop p q b s = IsTrue (begins p b) × (b ≤ℤ s) × (s <ℤ stop q b)

-- some stretch holds the second
abbrev pub InComputedStretches : StartParts → DurationParts → ℤ → Type 0
InComputedStretches p q s = (b : ℤ) × IsHeldToStop p q b s

-- a stretch that begins on day n holds the second
abbrev pub IsHeldFromDay : StartParts → DurationParts → ℤ → ℤ → Type 0
IsHeldFromDay p q n s = (b : ℤ) × (day_of_second b ≡ n) × IsHeldToStop p q b s

-- a stretch that begins on a day from `low` on and before day n holds the second
abbrev pub IsHeldFromDays : StartParts → DurationParts → ℤ → ℤ → ℤ → Type 0
IsHeldFromDays p q low n s = (m : ℤ) × (low ≤ℤ m) × (m <ℤ n) × IsHeldFromDay p q m s

-- the latest second of day n, not after s, at which the clock fits, if there is one
abbrev pub IsLatestNotAfter : StartParts → ℤ → ℤ → Option ℕ → Type 0
IsLatestNotAfter p n s (Some k) =
    (k < day_seconds) × (begins_at p k ≡ true) × ((pos day_seconds *ℤ n +ℤ pos k) ≤ℤ s)
    × ((j : ℕ) → k < j → j < day_seconds → (pos day_seconds *ℤ n +ℤ pos j) ≤ℤ s → begins_at p j ≡ false)
IsLatestNotAfter p n s None = (j : ℕ) → j < day_seconds → (pos day_seconds *ℤ n +ℤ pos j) ≤ℤ s → begins_at p j ≡ false
