-- Spans that end before the bounds are passed by; one that goes on behind them is cut, and its rest is kept for later.
use Rattle.std.proofs.Common.{◌∙◌, ap, subst, arith, List, ◌∷◌, ◌↔◌}
use Rattle.std.specs.Prelude.{◌≤ℤ◌, ◌<ℤ◌, None}
use Rattle.std.proofs.lemmas.Int.{ints}
use Rattle.gtd_core.specs.Seconds.{Interval}
use Rattle.gtd_spans.specs.Counting.{part_within, spans_to_come}
use Rattle.gtd_spans.specs.Normal.{Holds, IsNormal}
use Rattle.gtd_spans.specs.facts.CountFacts.{day-later, takes-is}
use Rattle.gtd_spans.specs.facts.PartFacts.{left-later, left-normal, rest-normal, take-behind, take-last, take-none, take-part}
use Rattle.gtd_spans.specs.facts.PartFacts.{take-skip, takes-from}
use Rattle.gtd_spans.proofs.by_day.next_within.Goals as goal

pub returns-then-from-until-clause-takes : goal.returns-then-from-until-clause-takes
returns-then-from-until-clause-takes g c =
    let l = c.loop-held in
    let rest = g.S.SpanSource.rest in
    let behind : c.args.bounds.until ≤ℤ c.in-Some.span.from = omega (arith, ints) in
    let here = spans_to_come l.held (rest l.source) in
    takes-from c.args.bounds (spans_to_come c.args.held.now (rest c.args.source.now)) here here None l.invariant.same
    (take-behind c.args.bounds l.held c.in-Some.span (rest l.source) c.in-Some.is l.invariant.normal behind)

pub returns-then-until : goal.returns-then-until
returns-then-until g c =
    let l = c.loop-held in
    let rest = g.S.SpanSource.rest in
    let from = ap (λ (i : Interval). i.from) c.between.ensures.value ∙ c.until-then-until.ensures.value in
    let until = ap (λ (i : Interval). i.until) c.between.ensures.value ∙ c.until-then-until-2.ensures.value in
    let begins : c.in-Some.span.from <ℤ c.args.bounds.until = omega (arith, ints) in
    let ends : c.args.bounds.until <ℤ c.in-Some.span.until = omega (arith, ints) in
    record {
      takes = takes-from c.args.bounds (spans_to_come c.args.held.now (rest c.args.source.now))
          (spans_to_come l.held (rest l.source))
          (c.between.result ∷ rest l.source)
          c.meet.result l.invariant.same
          (take-last c.args.bounds l.held c.in-Some.span (rest l.source) c.in-Some.is l.invariant.normal c.between.result
          from until begins ends c.meet.result c.meet.ensures.seconds c.meet.ensures.ends);
      later = λ t h.
          let a = l.invariant.later t h in
          let b = left-later c.args.bounds l.held c.in-Some.span (rest l.source) c.in-Some.is l.invariant.normal
          c.between.result from until begins ends t h in
          ((λ k. b.0 (a.0 k)), (λ k. a.1 (b.1 k)));
      normal = left-normal c.args.bounds l.held c.in-Some.span (rest l.source) c.in-Some.is l.invariant.normal
          c.between.result from until begins ends;
    }

pub returns-in-Some-meet-clause-takes : goal.returns-in-Some-meet-clause-takes
returns-in-Some-meet-clause-takes g c =
    let l = c.loop-held in
    let rest = g.S.SpanSource.rest in
    let took = takes-is (rest l.source) c.next.result (rest c.next.new.self) c.next.ensures.takes in
    let e = c.in-Some-meet.ensures in
    l.invariant.same
    ∙ take-part c.args.bounds l.held c.in-Some.span (rest l.source) c.in-Some.is l.invariant.normal c.in-Some-meet.part
    e.ends.0 e.ends.1 e.seconds
    ∙ ap (λ (xs : List Interval). c.in-Some-meet.part ∷ part_within c.args.bounds xs) took

pub returns-in-Some-meet-clause-later : goal.returns-in-Some-meet-clause-later
returns-in-Some-meet-clause-later g c =
    let l = c.loop-held in
    let rest = g.S.SpanSource.rest in
    let took = takes-is (rest l.source) c.next.result (rest c.next.new.self) c.next.ensures.takes in
    let ends : c.in-Some.span.until ≤ℤ c.args.bounds.until = omega (arith, ints) in
    λ t h.
    let a = l.invariant.later t h in
    let b = subst (λ (xs : List Interval). Holds (spans_to_come l.held (rest l.source)) t ↔ Holds xs t) took
    (day-later l.held c.in-Some.span (rest l.source) c.in-Some.is l.invariant.normal t (omega (arith, ints, h, ends))) in
    ((λ k. b.0 (a.0 k)), (λ k. a.1 (b.1 k)))

pub loop-held-preserved : goal.loop-held-preserved
loop-held-preserved g c =
    let l = c.loop-held in
    let rest = g.S.SpanSource.rest in
    let took = takes-is (rest l.source) c.next.result (rest c.next.new.self) c.next.ensures.takes in
    let ends : c.in-Some.span.until ≤ℤ c.args.bounds.until = omega (arith, ints) in
    record {
      normal = subst IsNormal took (rest-normal c.args.bounds l.held c.in-Some.span (rest l.source) c.in-Some.is
          l.invariant.normal);
      same = l.invariant.same
          ∙ take-skip c.args.bounds l.held c.in-Some.span (rest l.source) c.in-Some.is l.invariant.normal
          c.in_default-meet.ensures.seconds
          ∙ ap (part_within c.args.bounds) took;
      later = λ t h.
          let a = l.invariant.later t h in
          let b = subst (λ (xs : List Interval). Holds (spans_to_come l.held (rest l.source)) t ↔ Holds xs t) took
          (day-later l.held c.in-Some.span (rest l.source) c.in-Some.is l.invariant.normal t (omega (arith, ints, h, ends))) in
          ((λ k. b.0 (a.0 k)), (λ k. a.1 (b.1 k)));
    }

pub returns-clause-takes : goal.returns-clause-takes
returns-clause-takes g c =
    let l = c.loop-held in
    let rest = g.S.SpanSource.rest in
    let here = spans_to_come l.held (rest l.source) in
    takes-from c.args.bounds (spans_to_come c.args.held.now (rest c.args.source.now)) here here None l.invariant.same
    (take-none c.args.bounds l.held (rest l.source) c.in_default.is)
