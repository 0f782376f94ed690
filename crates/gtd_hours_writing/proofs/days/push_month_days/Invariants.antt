-- The list so far, with the month days that are left, is the whole one.
use Rattle.std.proofs.Common.{◌≡◌, length}
use Rattle.gtd_hours_writing.specs.Days.{with_month_days}
use Rattle.gtd_hours_writing.proofs.days.push_month_days.Given as goal

abbrev pub invariant-loop-item : goal.invariant-loop-item
invariant-loop-item l =
    with_month_days l.out.items l.rest l.own l.dates l.easter
    ≡ with_month_days l.initial.out.items l.rule.month_items.items l.initial.own l.rule.dates.items l.rule.easter.items

abbrev pub decreases-loop-item : goal.decreases-loop-item
decreases-loop-item l = length l.rest
