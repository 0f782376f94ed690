use Rattle.gtd_conditional_rows.specs.Overrides.{AreEffective}
use Rattle.gtd_conditional_rows.proofs.overrides.put_effective_last.Given as goal

-- the steps so far that are not overridden stand last
abbrev pub invariant-loop-place : goal.invariant-loop-place
invariant-loop-place l = AreEffective l.fn.steps l.steps l.place l.first l.settled

abbrev pub decreases-loop-place : goal.decreases-loop-place
decreases-loop-place l = l.place
