-- The n-th weekday of a month is within the n-th seven days, counted from its first or back from its last day.
use Rattle.std.proofs.Common.{arith}
use Rattle.gtd_recur.proofs.FindLemmas.{nth-days, nth_back-days, all-days}
use Rattle.gtd_recur.proofs.find.month_days.Goals as goal

pub returns-in-Some-nth-clause-within : goal.returns-in-Some-nth-clause-within
returns-in-Some-nth-clause-within c = nth-days c.args.start.now c.in-Some-nth.n _ c.in-Some-nth.is

pub returns-in-Some-nth_back-clause-within : goal.returns-in-Some-nth_back-clause-within
returns-in-Some-nth_back-clause-within c = λ n on.
    let h = nth_back-days c.args.start.now c.in-Some-nth_back.n _ c.in-Some-nth_back.is n on in
    let a = h.0 in let b = h.1 in let d = h.2 in let least = c.min.ensures in
    (omega (arith, a, b, least), omega (arith, d))

pub returns-then-gives_day-clause-within : goal.returns-then-gives_day-clause-within
returns-then-gives_day-clause-within c = λ n on. all-days n
