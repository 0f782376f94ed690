-- The first span that ends after the second decides: the change is its start, or its end if the second is inside;
-- with no such span membership stays as it is.
use Rattle.std.proofs.Common.{◌≡◌, ◌↔◌, List, ◌∷◌, refl, sym, subst, inl, arith}
use Rattle.std.specs.Prelude.{ℤ, ◌≤ℤ◌, ◌<ℤ◌}
use Rattle.std.proofs.lemmas.Int.{ints}
use Rattle.gtd_core.specs.Seconds.{Interval}
use Rattle.gtd_spans.specs.Normal.{Holds, IsNormal}
use Rattle.gtd_spans.proofs.Changes.{Rest, change-at-from, change-at-until, lt-told, ge-told}
use Rattle.gtd_spans.proofs.source.next_change.Goals as goal

rest-here : (xs ys rest : List Interval) (x : Interval) (s : ℤ) → ys ≡ x ∷ rest → IsNormal ys
    → ((t : ℤ) → s ≤ℤ t → Holds xs t ↔ Holds ys t) → Rest xs s x rest
rest-here xs ys rest x s e n same = record {
  normal = subst IsNormal e n;
  same = λ t le. (
    (λ h. subst (λ (zs : List Interval). Holds zs t) e ((same t le).0 h)),
    (λ h. (same t le).1 (subst (λ (zs : List Interval). Holds zs t) (sym e) h)),
  );
}

pub returns-then-lt : goal.returns-then-lt
returns-then-lt g c =
    let xs : List Interval = g.S.SpanSource.rest c.args.source.now in
    let rest : List Interval = g.S.SpanSource.rest c.next.new.self in
    let r = rest-here xs (g.S.SpanSource.rest c.loop-x.source) rest c.in-Some.x c.args.second.0 c.in-Some.ensures.takes
    (g.met.S.SpanSource.is_normal c.loop-x.source) c.loop-x.invariant in
    let lt : c.args.second.0 <ℤ c.in-Some.x.from = lt-told _ _ _ _ c.lt.result c.lt.ensures c.if-lt.true refl
    c.from.ensures.value in
    let here : Holds xs c.in-Some.x.from = (r.same c.in-Some.x.from (omega (arith, ints))).1
    (inl (omega (arith, ints), c.from.ensures.not_empty)) in
    record {
      change = rw c.from-then-lt.ensures.value
          (change-at-from xs rest c.in-Some.x c.args.second.0 c.args.until.0 r lt (c.requires.early c.in-Some.x.from here));
    }

pub returns-then-lt-3 : goal.returns-then-lt-3
returns-then-lt-3 g c =
    let xs : List Interval = g.S.SpanSource.rest c.args.source.now in
    let rest : List Interval = g.S.SpanSource.rest c.next.new.self in
    let r = rest-here xs (g.S.SpanSource.rest c.loop-x.source) rest c.in-Some.x c.args.second.0 c.in-Some.ensures.takes
    (g.met.S.SpanSource.is_normal c.loop-x.source) c.loop-x.invariant in
    let le : c.in-Some.x.from ≤ℤ c.args.second.0 = ge-told _ _ _ _ c.lt.result c.lt.ensures c.if-lt.false refl
    c.from.ensures.value in
    let lt : c.args.second.0 <ℤ c.in-Some.x.until = lt-told _ _ _ _ c.lt-in-Some.result c.lt-in-Some.ensures c.if-lt-2.true refl
    c.until.ensures.value in
    let lu : c.in-Some.x.until <ℤ c.args.until.0 = lt-told _ _ _ _ c.lt-then-lt-2.result c.lt-then-lt-2.ensures c.if-lt-3.true
    c.until-then-lt-2.ensures.value refl in
    record {
      change = rw c.until-then-lt-3.ensures.value (change-at-until xs rest c.in-Some.x c.args.second.0 c.args.until.0 r le
          lt lu);
    }
