-- Days of the month after the last on which the start can begin are passed over, and those of the next month before
-- the first: none has a start.
use Rattle.std.proofs.Common.{inl, inr, arith}
use Rattle.gtd_calendar.specs.facts.Signed.{signed_arith}
use Rattle.gtd_recur.proofs.FindLemmas.{off-month, all-days}
use Rattle.gtd_recur.proofs.find.next_in_month.Goals as goal

pub returns-then-of_month-first-clause-none : goal.returns-then-of_month-first-clause-none
returns-then-of_month-first-clause-none c = λ n gt lt.
    off-month c.args.start.now c.month_days-first.result.0 c.month_days-first.result.1 c.args.day n
    c.month_days-first.ensures.within gt (inl (omega arith, omega (arith, signed_arith)))

pub returns-clause-none : goal.returns-clause-none
returns-clause-none c = λ n gt lt.
    let month = all-days c.args.day in let m1 = month.1 in
    off-month c.args.start.now c.month_days-first.result.0 c.month_days-first.result.1 c.args.day n
    c.month_days-first.ensures.within gt (inr (
      omega arith,
      elim (c.later.ensures.2) [ inl e ↦ omega (arith, signed_arith) | inr e ↦ absurd (omega (arith, signed_arith)) ],
    ))
