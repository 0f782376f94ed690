use Rattle.std.proofs.Common.{◌≡◌, length}
use Rattle.std.specs.List.{list_any}
use Rattle.gtd_hours_hidden.specs.Hides.{has_weekday}
use Rattle.gtd_hours_hidden.proofs.selectors.some_has_weekday.Given as goal

-- the rest decides
abbrev pub invariant-loop-one : goal.invariant-loop-one
invariant-loop-one l = list_any (has_weekday l.weekday) l.selectors ≡ list_any (has_weekday l.weekday) l.rest

abbrev pub decreases-loop-one : goal.decreases-loop-one
decreases-loop-one l = length l.rest
