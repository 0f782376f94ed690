-- When elements change next, so far as it is known.
use Rattle.std.specs.Prelude.{◌≡◌, ◌<◌, ℕ, ℤ, pos, ◌*ℤ◌, List, Option, Some, None, length, get_or, slice_index_or}
use Rattle.gtd_core.specs.Limits.{day_seconds}
use Rattle.gtd_core.specs.Seconds.{day_of_second}
use Rattle.gtd_core.specs.declared.second.Sec.{Sec}
use Rattle.gtd_records.specs.Closing.{IsOpen, Restriction}
use Rattle.gtd_rows.specs.declared.direction.DirectedElement.{DirectedElement}
use Rattle.gtd_rows.specs.declared.direction.Direction.TheVariants.{Positive}
use Rattle.gtd_spans.specs.Change.{IsNextChange, NeverChanges}
use Rattle.gtd_alike.specs.Alike.{asked_at}
use Rattle.gtd_states.specs.States.{IsLookEnd}
use Rattle.gtd_states.specs.declared.known.KnownChange.{KnownChange}

-- one of them, by how many are before it; past their end one of an element that says nothing
abbrev pub known_at : List KnownChange → ℕ → KnownChange
known_at known place = get_or known place (record { at = record { element = 0; direction = Positive }; change = None })

-- they are those of these elements, in the same order
pub record AreAllKnown (asked : List DirectedElement) (known : List KnownChange) : Type 0 where
  pub many : length known ≡ length asked
  pub each : (place : ℕ) → place < length asked → (known_at known place).at ≡ asked_at asked place

module _ (found : List Restriction) (vehicle : ℕ) (second : ℤ) where
  -- If it is none, the element's state never changes, in the days that are looked at; otherwise it changes then and not before.
  abbrev pub IsRightChange : DirectedElement → Option Sec → Type 0
  IsRightChange at change =
      (last : ℤ) → IsLookEnd (day_of_second second) last
      → (change ≡ None → NeverChanges (IsOpen found at.element at.direction vehicle) second (last *ℤ pos day_seconds))
      × ((c : Sec) → change ≡ Some c
      → IsNextChange (IsOpen found at.element at.direction vehicle) second (last *ℤ pos day_seconds) c.0)

  -- that of each is right
  abbrev pub AreRight : List KnownChange → Type 0
  AreRight known =
      (place : ℕ) (d : KnownChange) → place < length known
      → IsRightChange (slice_index_or known place d).at (slice_index_or known place d).change
