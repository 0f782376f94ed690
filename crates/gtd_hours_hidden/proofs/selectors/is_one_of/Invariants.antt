use Rattle.std.proofs.Common.{◌≡◌, length}
use Rattle.std.specs.List.{list_any}
use Rattle.gtd_hours_hidden.specs.Hides.{same_selector}
use Rattle.gtd_hours_hidden.proofs.selectors.is_one_of.Given as goal

-- the rest decides
abbrev pub invariant-loop-other : goal.invariant-loop-other
invariant-loop-other l = list_any (same_selector l.one) l.selectors ≡ list_any (same_selector l.one) l.rest

abbrev pub decreases-loop-other : goal.decreases-loop-other
decreases-loop-other l = length l.rest
