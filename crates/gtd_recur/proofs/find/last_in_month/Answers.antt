-- Days of the month outside of those on which the start can begin are passed over backwards, none with a start.
use Rattle.std.proofs.Common.{◌<ℤ◌, inl, inr, arith, pos, ◌+ℤ◌, ◌-ℤ◌}
use Rattle.gtd_calendar.specs.facts.Signed.{signed_arith}
use Rattle.gtd_calendar.specs.ComputedDates.{day_of_month}
use Rattle.gtd_recur.proofs.FindLemmas.{off-month-back, all-days}
use Rattle.gtd_recur.proofs.find.last_in_month.Goals as goal

pub returns-then-of_month-last-clause-none : goal.returns-then-of_month-last-clause-none
returns-then-of_month-last-clause-none c = λ n gt lt.
    off-month-back c.args.start.now c.month_days-first.result.0 c.month_days-first.result.1 c.args.day n
    c.month_days-first.ensures.within lt (inl (omega arith, omega (arith, signed_arith)))

pub returns-clause-none : goal.returns-clause-none
returns-clause-none c = λ n gt lt.
    let is = c.requires.of_month in let more = c.if-of_month-first.false in let month = all-days c.args.day in let m1 = month.1 in
    let near : (c.args.day +ℤ pos c.month_days-first.result.1 -ℤ pos 28 -ℤ pos (day_of_month c.args.day)) <ℤ n =
    elim (c.earlier.ensures.2) [ inl e ↦ omega (arith, signed_arith) | inr e ↦ absurd (omega (arith, signed_arith)) ] in
    off-month-back c.args.start.now c.month_days-first.result.0 c.month_days-first.result.1 c.args.day n
    c.month_days-first.ensures.within lt (inr (omega (arith, is, more), near))
