-- What is found for one question holds from its second on, up to the change or to the end of the days that are looked at.
use Rattle.std.proofs.Common.{◌≡◌, ◌∙◌, sym, subst, ap, ◌↔◌, Bool, true, false, true≢false, not, List, Option, Some, None}
use Rattle.std.specs.Prelude.{ℤ, pos, ◌*ℤ◌, IsTrue, MatchOption}
use Rattle.gtd_core.specs.Seconds.{day_of_second}
use Rattle.gtd_core.specs.declared.second.Sec.{Sec}
use Rattle.gtd_records.specs.Closing.{IsClosed, Restriction}
use Rattle.gtd_spans.specs.Change.{IsNextChange, NeverChanges}
use Rattle.gtd_states.specs.States.{IsLookEnd}
use Rattle.gtd_states.specs.facts.OneState.{one_last}
use Rattle.gtd_ask.specs.Known.{IsGroupOpen, IsHeld}
use Rattle.gtd_ask.specs.declared.asked.Group.{Group}
use Rattle.gtd_ask.specs.declared.held.Held.{Held}
use Rattle.gtd_ask.proofs.HeldFacts.{HoldsFrom, lasts, turned_then}
use Rattle.gtd_ask.proofs.LineFacts.{turned}
use Rattle.gtd_ask.proofs.held.held_alone.Goals as goal

module _ (found : List Restriction) (g : Group) (s : Sec) (closed : Bool) (o : Option Sec)
    (state : IsTrue closed ↔ IsClosed found g.element g.direction g.vehicle s.0)
    (change : (last : ℤ) × IsLookEnd (day_of_second s.0) last × MatchOption o
    (NeverChanges (IsGroupOpen found g) s.0 (last *ℤ pos 86400))
    (λ c. IsNextChange (IsGroupOpen found g) s.0 (last *ℤ pos 86400) c.0)) where
  here : IsTrue (not closed) ↔ IsGroupOpen found g s.0
  here = turned closed (IsClosed found g.element g.direction g.vehicle s.0) state

  abbrev of : Sec → Bool → Held
  of until is_change = record {
    element = g.element;
    from = s;
    until = until;
    direction = g.direction;
    vehicle = g.vehicle;
    is_open = not closed;
    is_change = is_change;
  }

  to_change : (c : Sec) → o ≡ Some c → IsHeld found (of c true)
  to_change c is =
      let next : IsNextChange (IsGroupOpen found g) s.0 (change.0 *ℤ pos 86400) c.0 =
      subst (λ (x : Option Sec). MatchOption x (NeverChanges (IsGroupOpen found g) s.0 (change.0 *ℤ pos 86400))
      (λ d. IsNextChange (IsGroupOpen found g) s.0 (change.0 *ℤ pos 86400) d.0)) is change.2 in
      record {
        same = lasts (IsGroupOpen found g) (not closed) s.0 c.0 here next.least;
        turns = λ e. turned_then (IsGroupOpen found g) (not closed) s.0 c.0 here next.differs;
      }

  to_end : (end : Sec) (last : ℤ) → IsLookEnd (day_of_second s.0) last → end.0 ≡ last *ℤ pos 86400 → o ≡ None
      → IsHeld found (of end false)
  to_end end last ends e is =
      let never : NeverChanges (IsGroupOpen found g) s.0 (change.0 *ℤ pos 86400) =
      subst (λ (x : Option Sec). MatchOption x (NeverChanges (IsGroupOpen found g) s.0 (change.0 *ℤ pos 86400))
      (λ d. IsNextChange (IsGroupOpen found g) s.0 (change.0 *ℤ pos 86400) d.0)) is change.2 in
      let same_end = ap (λ (l : ℤ). l *ℤ pos 86400) (one_last (day_of_second s.0) change.0 last change.1 ends) in
      record {
        same = subst (HoldsFrom (IsGroupOpen found g) (not closed) s.0) (same_end ∙ sym e)
            (lasts (IsGroupOpen found g) (not closed) s.0 (change.0 *ℤ pos 86400) here never);
        turns = λ e. absurd (true≢false (sym e));
      }

pub returns-in-Some : goal.returns-in-Some
returns-in-Some c = record {
  held = rw (c.held_from.ensures.value) (to_change c.args.found.now c.args.group c.args.second c.closed_at-closed.result
      c.in_ok-change.change c.closed_at-closed.ensures.closed c.in_ok-change.ensures.change c.in-Some.until c.in-Some.is);
}

pub returns-in-None : goal.returns-in-None
returns-in-None c =
    let end = c.look_end-end.ensures.end in
    record {
      held = rw (c.held_from-in-None.ensures.value) (to_end c.args.found.now c.args.group c.args.second
          c.closed_at-closed.result c.in_ok-change.change c.closed_at-closed.ensures.closed c.in_ok-change.ensures.change
          c.look_end-end.result end.0 end.1 end.2 c.in-None.is);
    }
