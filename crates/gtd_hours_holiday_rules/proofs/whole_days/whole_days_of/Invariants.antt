-- The places so far, and those of the parts left, are those of all parts.
use Rattle.std.proofs.Common.{◌≡◌, ◌++◌, length}
use Rattle.gtd_hours_holiday_rules.specs.WholeDays.{whole_days_from, whole_days_of}
use Rattle.gtd_hours_holiday_rules.proofs.whole_days.whole_days_of.Given as goal

abbrev pub invariant-loop-part : goal.invariant-loop-part
invariant-loop-part l = l.places.items ++ whole_days_from l.so_far l.rest ≡ whole_days_of l.parts

abbrev pub decreases-loop-part : goal.decreases-loop-part
decreases-loop-part l = length l.rest
