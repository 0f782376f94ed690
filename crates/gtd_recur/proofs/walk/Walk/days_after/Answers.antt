-- Within a run of days the rest of it comes next; at its end, the next run that month and year do not exclude.
use Rattle.std.proofs.Common.{arith, pos, ◌+ℤ◌, ◌<ℤ◌}
use Rattle.std.specs.Prelude.{IsTrue}
use Rattle.gtd_calendar.specs.facts.Signed.{signed_arith}
use Rattle.gtd_core.specs.Parts.{start_parts}
use Rattle.gtd_core.specs.Whole.{to_day}
use Rattle.gtd_recur.specs.Begins.{month_and_year_fit}
use Rattle.gtd_recur.specs.facts.StartsLemmas.{run-on}
use Rattle.gtd_recur.proofs.SmallLemmas.{walk-day}
use Rattle.gtd_recur.proofs.walk.Walk.days_after.Goals as goal

pub overflow_add-next : goal.overflow_add-next
overflow_add-next c =
    let s = c.args.self.now in
    let lt = c.requires.high in let end = s.fitting.within in
    let day = walk-day s c.args.day c.requires.low (omega (arith, signed_arith, lt, end)) in
    omega (arith, signed_arith, day)

pub returns-then-next-self : goal.returns-then-next-self
returns-then-next-self c =
    let s = c.args.self.now in
    let ge = c.requires.low in let lt = c.requires.high in let end = s.fitting.within in
    let day = walk-day s c.args.day ge (omega (arith, signed_arith, lt, end)) in
    let until = walk-day s s.fits_until (omega (arith, signed_arith, ge, lt)) end in
    let more : (c.args.day +ℤ pos 1) <ℤ s.fits_until = omega (arith, signed_arith, day, until, c.if-next-self.true) in
    record {
      run = rw (day.is, day.after, until.is) (run-on (λ n. IsTrue (month_and_year_fit (start_parts s.basic.start) n))
          c.args.day s.fits_until (to_day s.horizon) end more
          (λ n from less. s.fitting.fit n (omega (arith, signed_arith, from, ge)) less));
    }

pub returns : goal.returns
returns c =
    let s = c.args.self.now in
    let ge = c.requires.low in let lt = c.requires.high in let end = s.fitting.within in
    let day = walk-day s c.args.day ge (omega (arith, signed_arith, lt, end)) in
    let last = walk-day s (to_day s.horizon) (omega (arith, signed_arith, ge, lt, end)) (omega (arith, signed_arith)) in
    record {
      run = rw (c.as_parts.ensures.value, c.to_day.ensures.value, day.is, day.after, last.is) at c.next_days.ensures.run;
    }
