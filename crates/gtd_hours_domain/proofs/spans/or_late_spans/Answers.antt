-- One range more that ends on a later day keeps what all ranges hold; at the end none is left.
use Rattle.std.proofs.Common.{◌≡◌, [], length, rules}
use Rattle.gtd_hours.specs.Opening.{Matches}
use Rattle.gtd_hours_domain.proofs.CostLemmas.{late-leaves, nothing-left}
use Rattle.gtd_hours_domain.proofs.SpanLemmas.{none-late, one_more-late}
use Rattle.gtd_hours_domain.proofs.spans.or_late_spans.Goals as goal

pub loop-time-preserved : goal.loop-time-preserved
loop-time-preserved c = (
  (λ s. one_more-late _ _ _ (Matches c.args.kinds.now) c.in-Some.time.now c.in-Some.more.now c.loop-time.rest.now s
      c.in-Some.ensures.cases.0 (c.in_ok-union.ensures.seconds s) (c.loop-time.invariant.0 s)),
  late-leaves _ _ _ _ c.in-Some.time.now c.in-Some.more.now c.loop-time.rest.now c.in-Some.ensures.cases.0
      c.in_ok-union.ensures.leaves c.loop-time.invariant.1,
)

pub returns-clause-seconds : goal.returns-clause-seconds
returns-clause-seconds c s =
    let none : c.loop-time.rest.now ≡ [] = nothing-left _ (let k : length c.loop-time.rest.now ≡ 0 = search rules in k) in
    none-late _ _ (Matches c.args.kinds.now) c.loop-time.rest.now s none (c.loop-time.invariant.0 s)
