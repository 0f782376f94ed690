use Rattle.std.proofs.Common.{◌≡◌, ◌++◌, List, length}
use Rattle.gtd_hours_days.specs.declared.group.Group.{Group}
use Rattle.gtd_hours_known.specs.HolidayDays.{AreYearlyOf}
use Rattle.gtd_hours_known.proofs.selectors.group_selectors.Given as goal

-- the selectors so far are those of the groups that were passed
abbrev pub invariant-loop-group : goal.invariant-loop-group
invariant-loop-group l = (passed : List Group) × (l.groups ≡ passed ++ l.rest) × AreYearlyOf l.years passed l.days.items

abbrev pub decreases-loop-group : goal.decreases-loop-group
decreases-loop-group l = length l.rest
