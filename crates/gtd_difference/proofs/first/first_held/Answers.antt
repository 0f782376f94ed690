-- The first span that ends behind the second decides: the answer is its start, or the second itself if it is inside.
use Rattle.std.proofs.Common.{◌≡◌, ◌↔◌, ◌∙◌, List, ◌∷◌, subst, arith, inl, inr}
use Rattle.std.specs.Prelude.{◌<ℤ◌}
use Rattle.std.proofs.lemmas.Int.{ints}
use Rattle.gtd_core.specs.Seconds.{Interval}
use Rattle.gtd_spans.specs.Normal.{Holds, IsNormal}
use Rattle.gtd_difference.proofs.Alone.{first-of}
use Rattle.gtd_difference.proofs.first.first_held.Goals as goal

pub returns-then-from-until : goal.returns-then-from-until
returns-then-from-until g c =
    let xs : List Interval = g.S.SpanSource.rest c.args.source.now in
    let ys : List Interval = g.S.SpanSource.rest c.loop-x.source in
    let rest : List Interval = g.S.SpanSource.rest c.next.new.self in
    let e : ys ≡ c.in-Some.x ∷ rest = c.in-Some.ensures.takes in
    let ends : c.args.from.0 <ℤ c.in-Some.x.until = omega (arith, ints, c.if-from-until.true, c.until.ensures.value) in
    let normal : IsNormal (c.in-Some.x ∷ rest) = subst IsNormal e (g.met.S.SpanSource.is_normal c.loop-x.source) in
    record {
      first = first-of xs rest c.in-Some.x c.args.from.0 c.later.result.0 normal
          (λ t later. subst (λ (zs : List Interval). Holds xs t ↔ Holds zs t) e (c.loop-x.invariant t later)) ends
          (omega (arith, ints, c.later.ensures.not_earlier, c.from.ensures.value))
          (elim c.later.ensures.either [ inl a ↦ inl a | inr b ↦ inr (b ∙ c.from.ensures.value) ]);
    }
