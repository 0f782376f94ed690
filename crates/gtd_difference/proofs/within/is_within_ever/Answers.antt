-- The days searched are as many as both domains take to repeat, so what holds in them holds from 1901 up to 2700.
use Rattle.std.proofs.Common.{arith, IsTrue}
use Rattle.std.proofs.lemmas.Int.{ints}
use Rattle.std.proofs.lemmas.Result.{IfOk-weaker}
use Rattle.gtd_core.specs.Whole.{whole}
use Rattle.gtd_difference.proofs.Inclusion.{of-repeated}
use Rattle.gtd_difference.proofs.within.is_within_ever.Goals as goal

pub returns : goal.returns
returns c =
    let days = c.days_between.result in
    let first = c.days_between.ensures.first in
    let last = c.days_between.ensures.last in
    record {
      within = IfOk-weaker c.is_within_days.result _ _ (λ within h.
          of-repeated c.args.domain.now c.args.other.now (IsTrue within) (whole days).from (whole days).until
          c.days_to_repeat-repeated.result c.requires.no_year (omega (arith, ints, first)) (omega (arith, ints, first, last))
          (omega (arith, ints, days.not_late)) c.days_to_repeat-repeated.ensures.days h) c.is_within_days.ensures.within;
    }
