use Rattle.std.proofs.Common.{◌≡◌, length}
use Rattle.gtd_hours_hidden.specs.Hides.{are_among}
use Rattle.gtd_hours_hidden.proofs.selectors.are_among.Given as goal

-- the rest decides
abbrev pub invariant-loop-one : goal.invariant-loop-one
invariant-loop-one l = are_among l.selectors l.others ≡ are_among l.rest l.others

abbrev pub decreases-loop-one : goal.decreases-loop-one
decreases-loop-one l = length l.rest
