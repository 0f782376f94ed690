-- When the stretches end of which a warning names an end.
use Rattle.std.specs.Prelude.{◌≡◌, ◌≤ℤ◌, ◌<ℤ◌, ◌+ℤ◌, ℕ, ℤ, pos}
use Rattle.gtd_calendar.specs.Clock.{IsStop}
use Rattle.gtd_core.specs.Seconds.{day_of_second}
use Rattle.gtd_core.specs.Trees.{Single}
use Rattle.gtd_core.specs.declared.duration.DurationParts.{DurationParts}
use Rattle.gtd_core.specs.declared.start.StartParts.{StartParts}
use Rattle.gtd_mistakes.specs.Told.{first_part}
use Rattle.gtd_recur.specs.Membership.{Matches}
use Rattle.gtd_warnings.specs.Over.{first_of_day}
use Rattle.gtd_warnings.specs.Sentences.{end_of}

-- from each second that the start matches, the stretch ends as is said of its first second and its end
abbrev pub EachEnds : StartParts → DurationParts → (ℤ → ℤ → Type 0) → Type 0
EachEnds start duration Ends = (b e : ℤ) → Matches start b → IsStop duration b e → Ends b e

-- the time of the day that a warning names
abbrev pub named : StartParts → DurationParts → ℕ
named start duration = end_of (first_part 0 (Single start duration))

-- it ends at this second of a day
abbrev pub EndsAtTime : ℕ → ℤ → ℤ → Type 0
EndsAtTime second b e = (day : ℤ) × (e ≡ first_of_day day +ℤ pos second)

-- it ends at this second of the next day
abbrev pub EndsNextDay : ℕ → ℤ → ℤ → Type 0
EndsNextDay second b e = e ≡ first_of_day (day_of_second b +ℤ pos 1) +ℤ pos second

-- it ends on its first day, at midnight at the latest; or after midnight
abbrev pub EndsByMidnight : ℤ → ℤ → Type 0
EndsByMidnight b e = e ≤ℤ first_of_day (day_of_second b +ℤ pos 1)

abbrev pub EndsPastMidnight : ℤ → ℤ → Type 0
EndsPastMidnight b e = first_of_day (day_of_second b +ℤ pos 1) <ℤ e
