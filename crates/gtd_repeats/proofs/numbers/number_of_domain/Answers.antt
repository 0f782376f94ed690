-- A domain that repeats weekly and has no second in the 28 years looked at has none at all, so its number is 0.
use Rattle.std.proofs.Common.{arith, refl}
use Rattle.std.proofs.lemmas.Int.{ints}
use Rattle.gtd_core.specs.Parts.{domain_tree}
use Rattle.gtd_core.specs.Whole.{whole}
use Rattle.gtd_repeats.proofs.NumberFacts.{weekly_known}
use Rattle.gtd_repeats.proofs.numbers.number_of_domain.Goals as goal

pub returns-then-is_weekly : goal.returns-then-is_weekly
returns-then-is_weekly c =
    let days = whole c.days_between.result in
    let first = c.days_between.ensures.first in
    let last = c.days_between.ensures.last in
    record {
      number = weekly_known (domain_tree c.args.domain.now) days.from days.until c.in_ok-soon.field-0
          (omega (arith, ints, first)) (omega (arith, ints, last)) c.in-None.is (c.if-is_weekly.ensures.weekly.0 refl)
          c.in_ok-soon.ensures.number;
    }
