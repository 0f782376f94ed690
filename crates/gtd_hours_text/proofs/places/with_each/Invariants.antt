-- The list has grown by the weekday at each place from the first up to but not including the number.
use Rattle.std.proofs.Common.{◌-◌, ◌+◌}
use Rattle.gtd_hours_text.specs.Adding.{AddsUpTo}
use Rattle.gtd_hours_text.proofs.places.with_each.Given as goal

abbrev pub invariant-loop-number : goal.invariant-loop-number
invariant-loop-number l =
    AddsUpTo l.fn.list.items l.fn.first.weekday l.fn.first.number l.number l.fn.last.number l.selectors.items

abbrev pub decreases-loop-number : goal.decreases-loop-number
decreases-loop-number l = l.fn.last.number + 1 - l.number
