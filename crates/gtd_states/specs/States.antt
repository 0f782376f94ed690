-- The state of a road element in a direction at a second: whether it is open or closed, until when, and by which rows.
use Rattle.std.specs.Prelude.{◌≡◌, ◌⊎◌, ℕ, ℤ, pos, ◌+ℤ◌, ◌*ℤ◌, ◌≤ℤ◌, ◌<ℤ◌, ◌↔◌, Bool, true, false, IsTrue, List, [], ◌∷◌}
use Rattle.std.specs.Prelude.{Option, Some, None, MatchOption}
use Rattle.gtd_core.specs.Limits.{day_seconds, horizons_end, most_horizon_days}
use Rattle.gtd_core.specs.Seconds.{day_of_second}
use Rattle.gtd_core.specs.declared.second.Sec.{Sec}
use Rattle.gtd_records.specs.Closing.{IsOpen, Restriction}
use Rattle.gtd_records.specs.ClosingRows.{AreClosingRows}
use Rattle.gtd_rows.specs.declared.direction.Direction.{Direction}
use Rattle.gtd_spans.specs.Change.{IsNextChange, NeverChanges}
use Rattle.gtd_states.specs.declared.state.ElementState.{ElementState}

-- The day before which a change is looked for: 146,098 days after the moment's, one more than 400 years have, or
-- 2700-01-01 (day 266,627) if that is earlier.
abbrev pub IsLookEnd : ℤ → ℤ → Type 0
IsLookEnd day last =
    ((last ≡ day +ℤ pos most_horizon_days) × (last ≤ℤ horizons_end))
    ⊎ ((last ≡ horizons_end) × (horizons_end <ℤ (day +ℤ pos most_horizon_days)))

-- whether it is open, the second at which that changes, if it does, and the numbers of the rows that close it
pub record State : Type 0 where
  pub is_open : Bool
  pub change : Option ℤ
  pub rows : List ℕ

-- The state of an element in a direction for a vehicle type at a second: it is open exactly if no restriction closes it; it
-- changes at the first later second, of those that are looked at, at which its state differs; and exactly these rows close it.
pub record IsState (found : List Restriction) (element : ℕ) (direction : Direction) (vehicle : ℕ) (second : ℤ) (state : State)
    : Type 0 where
  pub opens : IsTrue state.is_open ↔ IsOpen found element direction vehicle second
  pub last : ℤ
  pub ends : IsLookEnd (day_of_second second) last
  pub until : MatchOption state.change
      (NeverChanges (IsOpen found element direction vehicle) second (last *ℤ pos day_seconds))
      (λ c. IsNextChange (IsOpen found element direction vehicle) second (last *ℤ pos day_seconds) c)
  pub closing : AreClosingRows found element direction vehicle second state.rows

-- whether no row closes the element
abbrev pub none_closes : List ℕ → Bool
none_closes [] = true
none_closes (row ∷ rows) = false

-- a moment's second
abbrev pub second_of : Option Sec → Option ℤ
second_of None = None
second_of (Some second) = Some second.0

-- what a value stands for
abbrev pub state_of : ElementState → State
state_of s = record { is_open = none_closes s.rows.items; change = second_of s.change; rows = s.rows.items }
