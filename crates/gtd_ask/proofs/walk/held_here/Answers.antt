-- Before the first span that is not passed nothing is open, all is in it, and nothing just after it.
use Rattle.std.proofs.Common.{◌≡◌, subst, arith, ◌↔◌, false, true, Option, Some, ◌∷◌, List}
use Rattle.std.specs.Prelude.{ℤ, ◌≤ℤ◌, ◌<ℤ◌, IsTrue, MatchOption, ⊤}
use Rattle.std.proofs.lemmas.Int.{ints}
use Rattle.gtd_core.specs.Seconds.{Interval}
use Rattle.gtd_eval.specs.Cursors.{cursor_list}
use Rattle.gtd_records.specs.Closing.{Restriction}
use Rattle.gtd_spans.specs.Normal.{IsNormal}
use Rattle.gtd_ask.specs.Known.{IsGroupOpen}
use Rattle.gtd_ask.specs.Walks.{IsWalk, with_taken}
use Rattle.gtd_ask.specs.declared.walk.Walk.{Walk}
use Rattle.gtd_ask.proofs.WalkFacts.{HoldFrom, before, ends}
use Rattle.gtd_ask.proofs.walk.held_here.Goals as goal

module _ (found : List Restriction) (w : Walk) (x : Interval) (is : w.span ≡ Some x) (walk : IsWalk found w) where
  abbrev rest : List Interval
  rest = cursor_list w.cursor

  normal : IsNormal (x ∷ rest)
  normal = subst (λ (o : Option Interval). IsNormal (with_taken o rest)) is walk.normal

  same : HoldFrom (IsGroupOpen found w.group) w.at.0 w.end.0 (x ∷ rest)
  same = subst (λ (o : Option Interval). HoldFrom (IsGroupOpen found w.group) w.at.0 w.end.0 (with_taken o rest)) is walk.same

  early : (from : ℤ) → from ≡ x.from → (t : ℤ) → w.at.0 ≤ℤ t → t <ℤ from → t <ℤ w.end.0
      → IsTrue false ↔ IsGroupOpen found w.group t
  early from e t le lt within =
      before (IsGroupOpen found w.group) w.at.0 w.end.0 x rest normal same t le (omega (arith, ints, e, lt)) within

  late : (until : ℤ) → until ≡ x.until → MatchOption w.span ⊤ (λ y. w.at.0 <ℤ y.until) → until <ℤ w.end.0
      → IsTrue true ↔ IsGroupOpen found w.group until → ⊥
  late until e there lt open_then =
      let on : w.at.0 <ℤ x.until = subst (λ (o : Option Interval). MatchOption o ⊤ (λ y. w.at.0 <ℤ y.until)) is there in
      ends (IsGroupOpen found w.group) w.at.0 w.end.0 x rest normal same on (omega (arith, ints, e, lt))
      (subst (λ (u : ℤ). IsTrue true ↔ IsGroupOpen found w.group u) e open_then)

pub held_until-requires-then-walk-from-clause-same : goal.held_until-requires-then-walk-from-clause-same
held_until-requires-then-walk-from-clause-same c =
    early c.args.found.now c.args.walk.now c.in-Some.span c.in-Some.is c.requires.walk c.from-then-walk-from.result.0
    c.from-then-walk-from.ensures.value

pub held_until-requires-2-clause-turns : goal.held_until-requires-2-clause-turns
held_until-requires-2-clause-turns c =
    late c.args.found.now c.args.walk.now c.in-Some.span c.in-Some.is c.requires.walk c.until.result.0
    c.until.ensures.value c.requires.there
