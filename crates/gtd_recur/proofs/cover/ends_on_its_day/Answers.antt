-- The last stretch of a day ends with its latest start and the longest that the duration lasts.
use Rattle.std.proofs.Common.{arith}
use Rattle.gtd_calendar.specs.facts.Signed.{signed_arith}
use Rattle.gtd_core.specs.Parts.{duration_parts}
use Rattle.gtd_recur.proofs.CoverLemmas.{ends-on-day}
use Rattle.gtd_recur.proofs.cover.ends_on_its_day.Goals as goal

pub returns-in-Some : goal.returns-in-Some
returns-in-Some c =
    let whole = c.bound.ensures.value in
    let most = c.args.duration.now.bounded.1 in
    let clock = c.from.ensures in
    let last = c.in-Some.ensures.0 in
    record {
      past = λ yes low s held. ends-on-day c.args.start.now (duration_parts c.args.duration.now) low s c.in-Some.last
          c.in-Some.ensures (omega (arith, signed_arith, whole, most, clock, last, yes)) held;
    }
