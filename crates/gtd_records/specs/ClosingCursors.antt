-- What the cursors of closing restrictions have together.
use Rattle.std.specs.Prelude.{Any, ℕ, ℤ, List, length, ◌+◌, ◌+ℤ◌, ◌≤ℤ◌, ◌⊎◌, ◌↔◌}
use Rattle.gtd_core.specs.Seconds.{Within}
use Rattle.gtd_core.specs.Whole.{whole}
use Rattle.gtd_core.specs.declared.horizon.Horizon.{Horizon}
use Rattle.gtd_eval.specs.Cursors.{AllAtStart, SomeHolds, total_nodes}
use Rattle.gtd_eval.specs.Periods.{Period, RepeatsFrom, period_seconds}
use Rattle.gtd_eval.specs.declared.leaf.Leaf.{Ghosts}
use Rattle.gtd_eval.specs.declared.tree.SweepTree.{SweepTree}
use Rattle.gtd_records.specs.Closing.{Closes, HoldsAt, Restriction}
use Rattle.gtd_records.specs.declared.closing_cursors.ClosingCursors.{ClosingCursors}
use Rattle.gtd_rows.specs.declared.direction.Direction.{Direction}

-- one of the cursors has the second
abbrev pub HasSecond : ClosingCursors → ℤ → Type 0
HasSecond cursors t = SomeHolds cursors.repeating.items t ⊎ SomeHolds cursors.others.items t

-- how many there are, and the nodes of their trees
abbrev pub nodes_with_cursors : ClosingCursors → ℕ
nodes_with_cursors cursors =
    (total_nodes cursors.repeating.items + length cursors.repeating.items)
    + (total_nodes cursors.others.items + length cursors.others.items)

-- each of them still has its whole list to hand out
abbrev pub AreAtStart : ClosingCursors → Type 0
AreAtStart cursors = AllAtStart cursors.repeating.items × AllAtStart cursors.others.items

-- Together they have a second of the horizon exactly if they have the one a period later, where that is in the horizon too,
-- whichever period is taken from this one on.
abbrev pub RepeatIn : {L : Type 0} {g : Ghosts L} → Horizon → Period → List (SweepTree L g) → Type 0
RepeatIn horizon x cursors =
    (y : Period) → period_seconds x ≤ℤ period_seconds y → (t : ℤ) → Within (whole horizon) t
    → Within (whole horizon) (t +ℤ period_seconds y) → SomeHolds cursors t ↔ SomeHolds cursors (t +ℤ period_seconds y)

-- The period after which those that repeat do is no shorter than before, and each of their seconds is one that they had before, or
-- one of a set that repeats from this period on.
pub record AddsRepeating (set : ℤ → Type 0) (old new : ClosingCursors) : Type 0 where
  pub longer : period_seconds old.period ≤ℤ period_seconds new.period
  pub added : (t : ℤ) → SomeHolds new.repeating.items t
      → SomeHolds old.repeating.items t ⊎ (set t × RepeatsFrom new.period set)

-- a restriction that repeats from the period on closes the element at the second
pub record ClosesRepeating (x : Period) (element : ℕ) (direction : Direction) (vehicle : ℕ) (t : ℤ) (r : Restriction)
    : Type 0 where
  pub closes : Closes element direction vehicle t r
  pub repeats : RepeatsFrom x (HoldsAt r.domain)

-- some restriction that repeats from the period on does so
abbrev pub IsClosedRepeating : Period → List Restriction → ℕ → Direction → ℕ → ℤ → Type 0
IsClosedRepeating x rows element direction vehicle t = Any (ClosesRepeating x element direction vehicle t) rows
