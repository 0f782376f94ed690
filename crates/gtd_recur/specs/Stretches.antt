-- The stretches of listed starts, and the runs that they make.
use Rattle.std.specs.Prelude.{◌≡◌, Bool, false, ◌&&◌, ◌||◌, ◌⊎◌, ◌↔◌, List, [], ◌∷◌, Option, Some, None, ℤ, ◌-ℤ◌, ◌≤ℤ◌, ◌<ℤ◌}
use Rattle.std.specs.Prelude.{int_le, int_lt, unsigned_abs}
use Rattle.gtd_core.specs.declared.duration.DurationParts.{DurationParts}
use Rattle.gtd_core.specs.declared.second.Sec.{Sec}
use Rattle.gtd_core.specs.Seconds.{Interval, Within, day_of_second}
use Rattle.gtd_calendar.specs.Calendar.{IsCalendarDay}
use Rattle.gtd_spans.specs.Normal.{normal_list}
use Rattle.gtd_calendar.specs.ComputedEnds.{stop}

-- a stretch of one of the starts holds the second
abbrev pub HeldBy : DurationParts → List ℤ → ℤ → Type 0
HeldBy p [] t = ⊥
HeldBy p (b ∷ bs) t = ((b ≤ℤ t) × (t <ℤ stop p b)) ⊎ HeldBy p bs t

-- the test for that
abbrev pub held_by : DurationParts → List ℤ → ℤ → Bool
held_by p [] t = false
held_by p (b ∷ bs) t = (int_le b t && int_lt t (stop p b)) || held_by p bs t

-- the normal list of the seconds that the stretches of the starts hold, between two seconds
unfoldable pub runs_between : DurationParts → List ℤ → ℤ → ℤ → List Interval
runs_between p bs from until = normal_list (held_by p bs) from (unsigned_abs (until -ℤ from))

-- the start that was taken ahead, if there is one, and those that are left
abbrev pub starts_ahead : Option Sec → List ℤ → List ℤ
starts_ahead None left = []
starts_ahead (Some b) left = b.0 ∷ left

-- it is on a day of the calendar
abbrev pub IsAheadIn : Option Sec → Type 0
IsAheadIn None = Unit {0}
IsAheadIn (Some b) = IsCalendarDay (day_of_second b.0)

-- the seconds from one up to another that are also from a third up to a fourth
abbrev pub IsCut : ℤ → ℤ → ℤ → ℤ → Option Interval → Type 0
IsCut from until first end None = (t : ℤ) → first ≤ℤ t → t <ℤ end → from ≤ℤ t → t <ℤ until → ⊥
IsCut from until first end (Some x) =
    (x.from <ℤ x.until) × ((t : ℤ) → Within x t ↔ ((first ≤ℤ t) × (t <ℤ end) × (from ≤ℤ t) × (t <ℤ until)))
    × (x.until ≤ℤ end) × ((x.until ≡ end) ⊎ (x.until ≡ until)) × ((x.from ≡ first) ⊎ (x.from ≡ from))

-- a run from the first of the starts to an end, and the starts after it, hold what all the starts hold
pub record IsRun (p : DurationParts) (before after : List ℤ) (first end : ℤ) : Type 0 where
  pub order : first ≤ℤ end
  pub held : (t : ℤ) → HeldBy p before t ↔ (((first ≤ℤ t) × (t <ℤ end)) ⊎ HeldBy p after t)

-- the later and the earlier of two seconds
abbrev pub IsLater : ℤ → ℤ → ℤ → Type 0
IsLater a b r = (a ≤ℤ r) × (b ≤ℤ r) × ((r ≡ a) ⊎ (r ≡ b))

abbrev pub IsEarlier : ℤ → ℤ → ℤ → Type 0
IsEarlier a b r = (r ≤ℤ a) × (r ≤ℤ b) × ((r ≡ a) ⊎ (r ≡ b))
