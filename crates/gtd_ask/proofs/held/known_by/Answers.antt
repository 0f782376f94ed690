-- What holds from a second on holds at each of the seconds up to its end, and changes there or not in the days that are looked at.
use Rattle.std.proofs.Common.{subst, arith, List, Some, None}
use Rattle.std.specs.Prelude.{ℤ, pos, ◌*ℤ◌, ◌≤ℤ◌, ◌<ℤ◌, IsTrue}
use Rattle.std.proofs.lemmas.Int.{ints}
use Rattle.gtd_core.specs.Seconds.{day_of_second}
use Rattle.gtd_records.specs.Closing.{Restriction}
use Rattle.gtd_states.specs.States.{IsLookEnd}
use Rattle.gtd_ask.specs.Known.{IsGroupOpen, IsHeld, IsKnown}
use Rattle.gtd_ask.specs.declared.asked.Group.{Group}
use Rattle.gtd_ask.specs.declared.held.Held.{Held}
use Rattle.gtd_ask.proofs.HeldFacts.{never, next}
use Rattle.gtd_ask.proofs.held.known_by.Goals as goal

abbrev of : Held → Group
of h = record { element = h.element; direction = h.direction; vehicle = h.vehicle }

module _ (found : List Restriction) (h : Held) (s last : ℤ) (held : IsHeld found h) (le : h.from.0 ≤ℤ s) (lt : s <ℤ h.until.0)
    (end : IsLookEnd (day_of_second s) last) where
  stays : (last *ℤ pos 86400) ≤ℤ h.until.0 → IsKnown found (of h) s (record { is_open = h.is_open; change = None })
  stays early = record {
    state = held.same s le lt;
    last = last;
    ends = end;
    until = never (IsGroupOpen found (of h)) h.is_open h.from.0 h.until.0 s held.same le lt (last *ℤ pos 86400) early;
  }

  changes : IsTrue h.is_change → h.until.0 <ℤ (last *ℤ pos 86400)
      → IsKnown found (of h) s (record { is_open = h.is_open; change = Some h.until })
  changes is within = record {
    state = held.same s le lt;
    last = last;
    ends = end;
    until = next (IsGroupOpen found (of h)) h.is_open h.from.0 h.until.0 s held.same le lt (last *ℤ pos 86400) within
        (held.turns is);
  }

pub returns-then-look_end-held : goal.returns-then-look_end-held
returns-then-look_end-held c = record {
  known = λ found held.
      let h = c.args.held.now in
      let s = c.args.second.0 in
      let e = c.look_end.ensures.end in
      let from = c.if-second-held.false in
      let until = c.if-held-second.false in
      let early = c.if-look_end-held.true in
      let is = e.2 in
      subst (λ (g : Group). IsKnown found g s (record { is_open = h.is_open; change = None }))
      (c.is_of.ensures.same c.if-not-is_of.false)
      (stays found h s e.0 held (omega (arith, ints, from)) (omega (arith, ints, until)) e.1 (omega (arith, ints, early, is)));
}

pub returns : goal.returns
returns c = record {
  known = λ found held.
      let h = c.args.held.now in
      let s = c.args.second.0 in
      let e = c.look_end.ensures.end in
      let from = c.if-second-held.false in
      let until = c.if-held-second.false in
      let late = c.if-look_end-held.false in
      let is = e.2 in
      subst (λ (g : Group). IsKnown found g s (record { is_open = h.is_open; change = Some h.until }))
      (c.is_of.ensures.same c.if-not-is_of.false)
      (changes found h s e.0 held (omega (arith, ints, from)) (omega (arith, ints, until)) e.1 c.if-not-held.false
      (omega (arith, ints, late, is)));
}
