use Rattle.std.proofs.Common.{length}
use Rattle.gtd_hours.specs.Writable.{AreWritable}
use Rattle.gtd_hours_search.proofs.writable.are_writable.Given as goal

-- if the rest can be written, all rules can
abbrev pub invariant-loop-rule : goal.invariant-loop-rule
invariant-loop-rule l = AreWritable l.rest → AreWritable l.rules

abbrev pub decreases-loop-rule : goal.decreases-loop-rule
decreases-loop-rule l = length l.rest
