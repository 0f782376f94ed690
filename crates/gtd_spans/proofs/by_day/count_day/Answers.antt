use Rattle.std.proofs.Common.{◌≡◌, subst, arith, ◌+◌, ℕ}
use Rattle.std.specs.Prelude.{ℤ}
use Rattle.gtd_spans.specs.Normal.{Holds}
use Rattle.gtd_spans.specs.Counting.{IsCount, part_within, spans_to_come}
use Rattle.gtd_spans.specs.facts.CountFacts.{count-few, count-held}
use Rattle.gtd_spans.specs.facts.PartFacts.{part-first-count, part-inside, part-none-count, part-whole-count}
use Rattle.gtd_spans.proofs.by_day.count_day.Goals as goal

-- counts that agree
agree : (set : ℤ → Type 0) (t : ℤ) (n i j : ℕ) → i ≡ j → IsCount set t n i → IsCount set t n j
agree set t n i j e p = subst (λ (k : ℕ). IsCount set t n k) e p

pub seconds_of-count-requires-clause-begins : goal.seconds_of-count-requires-clause-begins
seconds_of-count-requires-clause-begins g c =
    (part-inside c.day_from-day.result c.in-Some.part (spans_to_come c.loop-part.held (g.S.SpanSource.rest c.loop-part.source)) _
    c.in-Some.ensures.takes).0

pub seconds_of-count-requires-clause-ends : goal.seconds_of-count-requires-clause-ends
seconds_of-count-requires-clause-ends g c =
    (part-inside c.day_from-day.result c.in-Some.part (spans_to_come c.loop-part.held (g.S.SpanSource.rest c.loop-part.source)) _
    c.in-Some.ensures.takes).2

pub overflow_add-count : goal.overflow_add-count
overflow_add-count g c =
    let rest = g.S.SpanSource.rest in
    let midnight = c.args.midnight.0 in
    let day = c.day_from-day.result in
    let n = c.seconds_of-count.result in
    let now = spans_to_come c.next_within.new.held (rest c.next_within.new.source) in
    let all = part_within day (spans_to_come c.args.held.now (rest c.args.source.now)) in
    let more = count-held (part_within day now) midnight 86400 in
    let few = count-few (Holds all) midnight 86400 (c.loop-part.count + (n + more.0)) (c.loop-part.invariant.counted (n + more.0)
    (part-first-count midnight day c.in-Some.part (spans_to_come c.loop-part.held (rest c.loop-part.source)) now n more.0
    c.day_from-day.ensures.value c.in-Some.ensures.takes c.seconds_of-count.ensures.count more.1)) in
    omega (arith, few)

pub loop-part-preserved : goal.loop-part-preserved
loop-part-preserved g c =
    let rest = g.S.SpanSource.rest in
    let midnight = c.args.midnight.0 in
    let day = c.day_from-day.result in
    let n = c.seconds_of-count.result in
    let now = spans_to_come c.next_within.new.held (rest c.next_within.new.source) in
    record {
      normal = c.in-Some.ensures.normal;
      counted = λ more q.
          agree (Holds (part_within day (spans_to_come c.args.held.now (rest c.args.source.now)))) midnight 86400
          (c.loop-part.count + (n + more))
          (c.loop-part.count + n + more) (omega arith)
          (c.loop-part.invariant.counted (n + more)
          (part-first-count midnight day c.in-Some.part (spans_to_come c.loop-part.held (rest c.loop-part.source)) now n more
          c.day_from-day.ensures.value c.in-Some.ensures.takes c.seconds_of-count.ensures.count q));
      later = λ t h.
          let a = c.loop-part.invariant.later t h in
          let b = c.in-Some.ensures.later t h in
          ((λ k. b.0 (a.0 k)), (λ k. a.1 (b.1 k)));
    }

pub returns-clause-count : goal.returns-clause-count
returns-clause-count g c =
    let rest = g.S.SpanSource.rest in
    let midnight = c.args.midnight.0 in
    let day = c.day_from-day.result in
    let old = spans_to_come c.args.held.now (rest c.args.source.now) in
    part-whole-count midnight day old c.loop-part.count c.day_from-day.ensures.value
    (agree (Holds (part_within day old)) midnight 86400 (c.loop-part.count + 0) c.loop-part.count (omega arith)
    (c.loop-part.invariant.counted 0
    (part-none-count midnight day (spans_to_come c.loop-part.held (rest c.loop-part.source)) c.in_default.ensures.takes.0)))

pub returns-clause-few : goal.returns-clause-few
returns-clause-few g c =
    count-few (Holds (spans_to_come c.args.held.now (g.S.SpanSource.rest c.args.source.now))) c.args.midnight.0 86400
    c.loop-part.count (returns-clause-count g c)
