-- A row without a domain holds throughout the years looked at, so its number is that of this one span.
use Rattle.std.proofs.Common.{◌≡◌, arith, None}
use Rattle.std.proofs.lemmas.Int.{ints}
use Rattle.gtd_repeats.proofs.NumberFacts.{whole_number}
use Rattle.gtd_repeats.proofs.numbers.number_of.Goals as goal

pub returns-in-None : goal.returns-in-None
returns-in-None c =
    let is = c.in-None.is in
    let e : c.args.domain ≡ None = cc in
    let first = c.days_between-years.ensures.first in
    let last = c.days_between-years.ensures.last in
    let all = c.whole.ensures.value in
    record {
      number = rw e (whole_number c.whole.result c.with_span.result (rw all (omega (arith, ints, first)))
          (rw all (omega (arith, ints, last))) c.with_span.ensures.value);
    }
