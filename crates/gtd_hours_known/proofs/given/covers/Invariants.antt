-- The rows that were passed do not.
use Rattle.std.proofs.Common.{◌≡◌, length}
use Rattle.gtd_hours_known.specs.Given.{covers}
use Rattle.gtd_hours_known.proofs.given.covers.Given as goal

abbrev pub invariant-loop-row : goal.invariant-loop-row
invariant-loop-row l = covers l.rest l.kind ≡ covers l.rows l.kind

abbrev pub decreases-loop-row : goal.decreases-loop-row
decreases-loop-row l = length l.rest
