-- The days between the one looked at and the next one have no start, so the first that fits from above is the last.
use Rattle.std.proofs.Common.{arith, rules}
use Rattle.gtd_calendar.specs.facts.Signed.{signed_arith}
use Rattle.gtd_recur.proofs.SearchLemmas.{last-found, last-on}
use Rattle.gtd_recur.proofs.SmallLemmas.{small-day}
use Rattle.gtd_recur.proofs.find.last_begun.Goals as goal

pub returns-in_default : goal.returns-in_default
returns-in_default c = record {
  last = last-found _ _ _ _ c.ranges.low c.ranges.end c.loop-found.invariant (λ le. c.in_default.ensures.missed);
}

pub loop-found-preserved : goal.loop-found-preserved
loop-found-preserved c =
    let low = small-day c.args.low (omega (arith, signed_arith, c.requires.low_in))
    (omega (arith, signed_arith, c.requires.order, c.requires.end_in)) in
    last-on _ _ _ _ c.in-Some.before c.later-found.result low (search rules) (search rules) c.loop-found.invariant
    c.in-Some.ensures.missed c.later-found.ensures
