-- What is known of the state of an element in a direction, for a vehicle type.
use Rattle.std.specs.Prelude.{◌↔◌, ◌*ℤ◌, ◌≤ℤ◌, ◌<ℤ◌, pos, ℤ, IsTrue, List, MatchOption}
use Rattle.gtd_core.specs.Limits.{day_seconds}
use Rattle.gtd_core.specs.Seconds.{day_of_second}
use Rattle.gtd_records.specs.Closing.{IsOpen, Restriction}
use Rattle.gtd_spans.specs.Change.{IsNextChange, NeverChanges}
use Rattle.gtd_states.specs.States.{IsLookEnd}
use Rattle.gtd_ask.specs.declared.asked.Group.{Group}
use Rattle.gtd_ask.specs.declared.held.Held.{Held}
use Rattle.gtd_ask.specs.declared.held.Known.{Known}

-- what a state is about
abbrev pub group_held : Held → Group
group_held h = record { element = h.element; direction = h.direction; vehicle = h.vehicle }

module _ (found : List Restriction) where
  -- no restriction closes it at the second
  abbrev pub IsGroupOpen : Group → ℤ → Type 0
  IsGroupOpen g t = IsOpen found g.element g.direction g.vehicle t

  -- At each second from one on and before another it is open, or at none of these; at the other one too, if it changes then, is
  -- this different.
  pub record IsHeld (h : Held) : Type 0 where
    pub same : (t : ℤ) → h.from.0 ≤ℤ t → t <ℤ h.until.0
        → IsTrue h.is_open ↔ IsOpen found h.element h.direction h.vehicle t
    pub turns : IsTrue h.is_change → IsTrue h.is_open ↔ IsOpen found h.element h.direction h.vehicle h.until.0 → ⊥

  -- It is open exactly if that is known; and it changes when that is known, or not before the end of the days that are looked at.
  pub record IsKnown (g : Group) (second : ℤ) (k : Known) : Type 0 where
    pub state : IsTrue k.is_open ↔ IsGroupOpen g second
    pub last : ℤ
    pub ends : IsLookEnd (day_of_second second) last
    pub until : MatchOption k.change
        (NeverChanges (IsGroupOpen g) second (last *ℤ pos day_seconds))
        (λ c. IsNextChange (IsGroupOpen g) second (last *ℤ pos day_seconds) c.0)
