-- The list so far, with the weekdays and holidays that are left, is the whole one.
use Rattle.std.proofs.Common.{◌≡◌, length}
use Rattle.gtd_hours_writing.specs.Days.{with_days}
use Rattle.gtd_hours_writing.proofs.days.push_in_order.Given as goal

abbrev pub invariant-loop-holiday : goal.invariant-loop-holiday
invariant-loop-holiday l =
    with_days l.out.items l.order l.weekdays l.rest ≡ with_days l.initial.out.items l.initial.order l.initial.weekdays l.holidays

abbrev pub decreases-loop-holiday : goal.decreases-loop-holiday
decreases-loop-holiday l = length l.rest
