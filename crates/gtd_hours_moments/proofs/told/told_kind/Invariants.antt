-- The tokens passed do not stand at the place, so it is searched for among the rest.
use Rattle.std.proofs.Common.{◌≡◌, length}
use Rattle.gtd_hours_moments.specs.Told.{told_kind}
use Rattle.gtd_hours_moments.proofs.told.told_kind.Given as goal

abbrev pub invariant-loop-first : goal.invariant-loop-first
invariant-loop-first l = told_kind l.kind l.place l.rest ≡ told_kind l.kind l.place l.told

abbrev pub decreases-loop-first : goal.decreases-loop-first
decreases-loop-first l = length l.rest
