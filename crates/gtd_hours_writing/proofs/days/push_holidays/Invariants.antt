-- The list so far, with the holidays of the rest, is the whole one.
use Rattle.std.proofs.Common.{◌≡◌, length}
use Rattle.gtd_hours_writing.specs.Days.{with_holidays}
use Rattle.gtd_hours_writing.proofs.days.push_holidays.Given as goal

abbrev pub invariant-loop-holiday : goal.invariant-loop-holiday
invariant-loop-holiday l = with_holidays l.out.items l.rest ≡ with_holidays l.initial.out.items l.holidays

abbrev pub decreases-loop-holiday : goal.decreases-loop-holiday
decreases-loop-holiday l = length l.rest
