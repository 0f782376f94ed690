use Rattle.std.proofs.Common.{◌≡◌, length}
use Rattle.std.specs.List.{list_all}
use Rattle.gtd_hours_hidden.specs.Hides.{is_plain}
use Rattle.gtd_hours_hidden.proofs.selectors.are_plain.Given as goal

-- the rest decides
abbrev pub invariant-loop-one : goal.invariant-loop-one
invariant-loop-one l = list_all is_plain l.selectors ≡ list_all is_plain l.rest

abbrev pub decreases-loop-one : goal.decreases-loop-one
decreases-loop-one l = length l.rest
