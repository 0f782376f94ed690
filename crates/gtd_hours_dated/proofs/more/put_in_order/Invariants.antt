-- The list so far, with the month days that are left, is the whole one.
use Rattle.std.proofs.Common.{◌≡◌, ◌++◌, length}
use Rattle.gtd_hours_dated.specs.Dated.{all_days, in_order, more_of}
use Rattle.gtd_hours_dated.proofs.more.put_in_order.Given as goal

abbrev pub invariant-loop-item : goal.invariant-loop-item
invariant-loop-item l =
    l.list.items ++ in_order l.rest l.own l.dates l.easter ≡ l.initial.list.items ++ all_days (more_of l.more) l.initial.own

abbrev pub decreases-loop-item : goal.decreases-loop-item
decreases-loop-item l = length l.rest
