-- The days between the one looked at and the next one have no start, so the first that fits is the first of all.
use Rattle.std.proofs.Common.{arith, to_z-of_z, rules}
use Rattle.gtd_calendar.specs.facts.Signed.{signed_arith}
use Rattle.gtd_recur.proofs.SearchLemmas.{first-found, first-on}
use Rattle.gtd_recur.proofs.find.next_begun.Goals as goal

pub returns-in_default : goal.returns-in_default
returns-in_default c = record {
  first = first-found _ _ _ _ c.ranges.day c.ranges.end c.loop-found.invariant (λ lt. c.in_default.ensures.missed);
}

pub loop-found-preserved : goal.loop-found-preserved
loop-found-preserved c = first-on _ _ _ _ c.in-Some.next c.earlier-found.result (search rules) (search rules)
    c.loop-found.invariant c.in-Some.ensures.missed c.earlier-found.ensures

pub returns : goal.returns
returns c =
    let end = to_z-of_z c.ranges.end in
    record {
      first = first-found _ _ _ _ c.ranges.day c.ranges.end c.loop-found.invariant
          (λ lt. absurd (omega (arith, signed_arith, lt, c.loop-found-test.false, end)));
    }
