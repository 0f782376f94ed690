-- The spans that are kept of a tree, and what they say of its list.
use Rattle.std.specs.Prelude.{◌≡◌, ◌≤◌, ◌-◌, [], List, ◌++◌, length, take, drop}
use Rattle.gtd_core.specs.Seconds.{Interval}
use Rattle.gtd_spans.specs.Normal.{IsNormal}
use Rattle.gtd_kept.specs.Repeating.{AreKept, IsRepeating, to_come}
use Rattle.gtd_kept.specs.declared.repeat.Repeat.{Repeat}
use Rattle.gtd_kept.specs.declared.repeat.Stage.TheVariants.{Repeating, GivenUp}

-- the kept intervals, in order
abbrev pub kept_list : Repeat → List Interval
kept_list again = drop again.place again.kept.items ++ take again.place again.kept.items

-- they fit what is to come of the list
abbrev pub HasKept : Repeat → List Interval → Type 0
HasKept again xs = AreKept again.period again.stage again.horizon.until (kept_list again) xs

-- what is still to come: the rest of what is handed out again, and then what is to come of the tree's list
abbrev pub rest_of : Repeat → List Interval → List Interval
rest_of again xs = drop again.lap again.told.items ++ to_come again.stage xs

-- nothing is left of what is handed out again
abbrev pub IsLapEnded : Repeat → Type 0
IsLapEnded again = drop again.lap again.told.items ≡ []

-- the whole list, from its first interval on: what the tree had handed out when all of a period were kept, and what it still has
abbrev pub whole_of : Repeat → List Interval → List Interval
whole_of again xs = again.told.items ++ xs

-- the last intervals of what was handed out, as many as are kept
abbrev pub last_told : Repeat → List Interval
last_told again = drop (length again.told.items - length again.kept.items) again.told.items

-- What is kept may be put back to how it was when all of a period were first kept: once they are, the last intervals that were
-- handed out fit what the tree still has, and all of that comes after them.
abbrev pub CanBeginAgain : Repeat → List Interval → Type 0
CanBeginAgain again xs = (length again.kept.items ≤ length again.told.items)
    × (IsRepeating again.stage → AreKept again.period (Repeating again.learnt) again.horizon.until (last_told again) xs
    × (to_come (Repeating again.learnt) xs ≡ xs))

-- What is kept fits a tree that still has to hand out xs, and had to hand out ws at first: what was handed out before all of a
-- period were kept, and what the tree still has, are the whole list.
pub record FitsTree (again : Repeat) (xs ws : List Interval) : Type 0 where
  pub kept : HasKept again xs
  pub ready : CanBeginAgain again xs
  pub whole : (again.stage ≡ GivenUp → ⊥) → whole_of again xs ≡ ws
  pub ended : (IsRepeating again.stage → ⊥) → IsLapEnded again
  pub normal : IsNormal (rest_of again xs)
