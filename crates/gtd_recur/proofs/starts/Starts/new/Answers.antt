-- The walk from the first day of the lookback on has all starts of the window before it.
use Rattle.std.proofs.Common.{◌∙◌, ap, ℕ, ℤ}
use Rattle.std.specs.Prelude.{take}
use Rattle.gtd_core.specs.Parts.{start_parts}
use Rattle.gtd_core.specs.Whole.{to_day}
use Rattle.gtd_recur.specs.Work.{starts_in, starts_of, days_between}
use Rattle.gtd_recur.proofs.starts.Starts.new.Goals as goal

pub invariant_of-result : goal.invariant_of-result
invariant_of-result c =
    let w = c.new.ensures in
    record { whole = rw (w.basic, w.horizon) w.first; ahead = w.seen }

pub returns-clause-to_come : goal.returns-clause-to_come
returns-clause-to_come c =
    let w = c.new.ensures in
    w.to_come ∙ rw (w.basic, w.horizon) (ap (λ (n : ℤ). starts_of (start_parts c.args.basic.start)
    (days_between n (to_day c.args.horizon))) w.first)

pub returns-clause-none_given : goal.returns-clause-none_given
returns-clause-none_given c =
    let w = c.new.ensures in
    ap (λ (k : ℕ). take k (starts_in c.new.result.basic c.new.result.horizon)) w.none_handed
