-- When the times of a rule are plain ranges of times, and that they are the same.
use Rattle.std.specs.Prelude.{◌≡◌, ◌↔◌, ◌⊎◌, ℕ, ◌+◌, ◌-◌, ◌%◌, ◌<◌, ◌≤◌, ◌||◌, Bool, true, false, List, [], ◌∷◌, Option, Some, None, ℤ}
use Rattle.gtd_hours.specs.Opening as plain
use Rattle.gtd_hours.specs.declared.hours.TimeRange.{TimeRange}
use Rattle.gtd_hours2.specs.Opening.{Clocks, InPart, IsBetween, IsTimeOn, end_after, minute_of}
use Rattle.gtd_hours2.specs.Rules.{Rule, has_kind}
use Rattle.gtd_hours2.specs.declared.values.PartKind.TheVariants as kind
use Rattle.gtd_hours2.specs.declared.values.RulePart.{RulePart}
use Rattle.gtd_hours2.specs.declared.values.RulePart.TheVariants as part
use Rattle.gtd_hours2.specs.declared.values.TimeOfDay.{TimeOfDay}
use Rattle.gtd_hours2.specs.declared.values.TimeTail.{TimeTail}
use Rattle.gtd_hours2.specs.declared.values.TimeTail.TheVariants as tail

-- ---- in range

abbrev pub EndsInDay : Clocks → ℕ → Option TimeOfDay → Type 0
EndsInDay c begin None = Unit {0}
EndsInDay c begin (Some last) = end_after begin (minute_of c last) ≤ begin + 1440

abbrev pub HasTailInDay : Clocks → ℕ → TimeTail → Type 0
HasTailInDay c begin tail.Plain = Unit {0}
HasTailInDay c begin tail.Open = end_after begin c.open_end ≤ begin + 1440
HasTailInDay c begin (tail.Every step) = 1 ≤ step

-- A time begins before 24:00 and lasts a day at most, and its points are some minutes apart.
pub record IsOfDay (c : Clocks) (first : TimeOfDay) (last : Option TimeOfDay) (t : TimeTail) : Type 0 where
  pub begins : minute_of c first < 1440
  pub ends : EndsInDay c (minute_of c first) last
  pub has_tail : HasTailInDay c (minute_of c first) t

abbrev pub IsTimeOfDay : Clocks → RulePart → Type 0
IsTimeOfDay c (part.Time first last t) = IsOfDay c first last t
IsTimeOfDay c other = Unit {0}

abbrev pub AreOfDay : Clocks → List RulePart → Type 0
AreOfDay c [] = Unit {0}
AreOfDay c (x ∷ xs) = IsTimeOfDay c x × AreOfDay c xs

abbrev pub AreAllOfDay : Clocks → List Rule → Type 0
AreAllOfDay c [] = Unit {0}
AreAllOfDay c (rule ∷ rules) = AreOfDay c rule.parts × AreAllOfDay c rules

-- ---- the same times

-- The plain ranges hold the same seconds, as times of each day. Without times, all of the day is meant.
abbrev pub AreTimes : Clocks → List RulePart → List TimeRange → Type 0
AreTimes c parts times = (leads : Bool) (n s : ℤ)
    → IsTimeOn c (has_kind leads kind.Times parts) parts n s ↔ plain.IsTimeOn times n s

-- ---- as the code goes

abbrev pub is_some_range : List TimeRange → Bool
is_some_range [] = false
is_some_range (t ∷ ts) = true

-- Ranges were added that hold these seconds, as times of each day.
pub record AreAdded (Holds : ℤ → ℤ → Type 0) (old new : List TimeRange) : Type 0 where
  pub some : is_some_range new ≡ true
  pub times : (n s : ℤ) → plain.SomeTime new n s ↔ (plain.SomeTime old n s ⊎ Holds n s)

-- a point up to a minute is one that comes before another minute
abbrev pub InPointsBefore : Clocks → ℕ → ℕ → ℕ → ℕ → ℤ → ℤ → Type 0
InPointsBefore c a b step m n s = (p : ℕ) × (a ≤ p) × (p ≤ b) × (p < m) × (p < 1440) × ((p - a) % step ≡ 0)
    × IsBetween n p (p + c.points) s

abbrev pub is_time : RulePart → Bool
is_time (part.Time first last t) = true
is_time other = false

-- The ranges of a part were added, if it is a time.
pub record IsWithPart (c : Clocks) (x : RulePart) (old new : List TimeRange) : Type 0 where
  pub some : is_some_range new ≡ (is_some_range old || is_time x)
  pub times : (n s : ℤ) → plain.SomeTime new n s ↔ (plain.SomeTime old n s ⊎ InPart c x n s)
