-- What the rows and the change of a value say.
use Rattle.std.proofs.Common.{◌≡◌, refl, arith, ◌+◌, ◌↔◌, ℕ, List, [], ◌∷◌, Option, Some, None}
use Rattle.std.specs.Prelude.{ℤ, pos, ◌*ℤ◌, IsTrue, MatchOption}
use Rattle.gtd_calendar.specs.Calendar.{IsCalendarDay}
use Rattle.gtd_core.specs.Seconds.{day_of_second, IsHorizonSecond}
use Rattle.gtd_core.specs.declared.second.Sec.{Sec}
use Rattle.gtd_records.specs.Closing.{IsOpen, Restriction}
use Rattle.gtd_records.specs.ClosingRows.{AreClosingRows}
use Rattle.gtd_rows.specs.declared.direction.Direction.{Direction}
use Rattle.gtd_spans.specs.Change.{IsNextChange, NeverChanges}
use Rattle.gtd_states.specs.States.{IsLookEnd, IsState, none_closes, second_of}
use Rattle.gtd_states.specs.facts.DayFacts.{change_shown}

module _ (found : List Restriction) (element : ℕ) (direction : Direction) (vehicle : ℕ) (second : ℤ) where
  -- it is open where no row is listed
  pub open_by_rows : (rows : List ℕ) → AreClosingRows found element direction vehicle second rows
      → IsTrue (none_closes rows) ↔ IsOpen found element direction vehicle second
  open_by_rows [] are = (
    (λ e closed. let c = (are.each (closed.0 + 1)).1 (record
        { before = closed.0; is = refl; within = closed.2; row = closed.1; stands = closed.3; closes = closed.4 }) in
        let l = c.1 in omega arith),
    (λ o. refl),
  )
  open_by_rows (x ∷ rows) are = (
    (λ e. cc),
    (λ o. absurd (let r = (are.each x).0 (0, omega arith, refl) in o (r.before, r.row, r.within, r.stands, r.closes))),
  )

pub shown : (set : ℤ → Type 0) (s last : ℤ) (o : Option Sec) → IsHorizonSecond s → IsLookEnd (day_of_second s) last
    → MatchOption o (NeverChanges set s (last *ℤ pos 86400)) (λ c. IsNextChange set s (last *ℤ pos 86400) c.0)
    → (c : Sec) → o ≡ Some c → IsCalendarDay (day_of_second c.0)
shown set s last o range end h c e =
    let k : MatchOption (Some c) (NeverChanges set s (last *ℤ pos 86400))
    (λ (d : Sec). IsNextChange set s (last *ℤ pos 86400) d.0)
    = rw e at h in
    change_shown c.0 s last range end k.later k.within

same_change : (A : Type 0) (B : ℤ → Type 0) (o : Option Sec) → MatchOption o A (λ c. B c.0) → MatchOption (second_of o) A B
same_change A B None h = h
same_change A B (Some c) h = h

pub state_is : (found : List Restriction) (element : ℕ) (direction : Direction) (vehicle : ℕ) (second : ℤ) (rows : List ℕ)
    (o : Option Sec)
    → AreClosingRows found element direction vehicle second rows
    → ((last : ℤ) × IsLookEnd (day_of_second second) last × MatchOption o
    (NeverChanges (IsOpen found element direction vehicle) second (last *ℤ pos 86400))
    (λ c. IsNextChange (IsOpen found element direction vehicle) second (last *ℤ pos 86400) c.0))
    → IsState found element direction vehicle second
    (record { is_open = none_closes rows; change = second_of o; rows = rows })
state_is found element direction vehicle second rows o are change = record {
  opens = open_by_rows found element direction vehicle second rows are;
  last = change.0;
  ends = change.1;
  until = same_change (NeverChanges (IsOpen found element direction vehicle) second (change.0 *ℤ pos 86400))
      (λ c. IsNextChange (IsOpen found element direction vehicle) second (change.0 *ℤ pos 86400) c) o change.2;
  closing = are;
}
