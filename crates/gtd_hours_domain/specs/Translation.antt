-- What the expressions of ranges of times contain, and how far what is said to be closed is made.
use Rattle.std.specs.Prelude.{◌⊎◌, ℕ, ◌+◌, ◌<◌, ◌≤◌, if◌then◌else◌, List, [], ◌∷◌, ℤ}
use Rattle.gtd_hours.specs.Cost.{falls_back, some_falls_back}
use Rattle.gtd_hours.specs.Opening.{IsBetween}
use Rattle.gtd_hours.specs.Ranges.{end_of}
use Rattle.gtd_hours.specs.declared.hours.Rule.{Rule}
use Rattle.gtd_hours.specs.declared.hours.TimeRange.{TimeRange}

-- one of the ranges of times that end on their day holds the second, and one of those that end on a later day
abbrev pub SomeEarly : List TimeRange → ℤ → ℤ → Type 0
SomeEarly [] n s = ⊥
SomeEarly (t ∷ ts) n s =
    ((end_of t.begin t.last ≤ 1440) × IsBetween n t.begin (end_of t.begin t.last) s) ⊎ SomeEarly ts n s

abbrev pub SomeLate : List TimeRange → ℤ → ℤ → Type 0
SomeLate [] n s = ⊥
SomeLate (t ∷ ts) n s =
    ((1440 < end_of t.begin t.last) × IsBetween n t.begin (end_of t.begin t.last) s) ⊎ SomeLate ts n s

-- how many rules there are up to the last open fallback rule
abbrev pub up_to_fallback : List Rule → ℕ
up_to_fallback [] = 0
up_to_fallback (rule ∷ rules) =
    if some_falls_back rules then up_to_fallback rules + 1
    else if falls_back rule.modifier rule.link then 1
    else 0
