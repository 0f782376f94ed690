-- The items that are left have the same answer.
use Rattle.std.proofs.Common.{◌≡◌, length}
use Rattle.gtd_hours_holiday_rules.specs.Told.{kind_among}
use Rattle.gtd_hours_holiday_rules.proofs.told.kind_among.Given as goal

abbrev pub invariant-loop-item : goal.invariant-loop-item
invariant-loop-item l = kind_among l.last l.bad l.rest ≡ kind_among l.fn.before l.bad l.items

abbrev pub decreases-loop-item : goal.decreases-loop-item
decreases-loop-item l = length l.rest
