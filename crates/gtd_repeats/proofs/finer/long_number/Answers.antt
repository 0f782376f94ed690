-- A row without a domain holds throughout the days, so its number is that of this one span.
use Rattle.std.proofs.Common.{◌≡◌, arith, refl, None}
use Rattle.std.proofs.lemmas.Int.{ints}
use Rattle.gtd_core.specs.Whole.{whole}
use Rattle.gtd_repeats.proofs.FinerFacts.{long_of_whole}
use Rattle.gtd_repeats.proofs.NumberFacts.{whole_normal}
use Rattle.gtd_repeats.proofs.finer.long_number.Goals as goal

pub returns-in-None : goal.returns-in-None
returns-in-None c =
    let is = c.in-None.is in
    let e : c.args.domain ≡ None = cc in
    let days = whole c.args.days in
    let all = c.whole.ensures.value in
    let normal = whole_normal days.from days.until c.whole.result (rw all refl) (rw all refl)
    (omega (arith, ints, c.args.days.not_empty)) in
    record {
      number = rw e (long_of_whole days.from days.until c.whole.result c.with_span.result normal c.with_span.ensures.value);
    }
