-- The basic domain contains each second from the first on up to where the search stands.
use Rattle.std.proofs.Common.{◌-ℤ◌, unsigned_abs}
use Rattle.gtd_recur.specs.Membership.{InBasic}
use Rattle.gtd_recur.proofs.ChangeLemmas.{IsHeldSoFar}
use Rattle.gtd_recur.proofs.changes.held_until.Given as goal

abbrev pub invariant-loop-at : goal.invariant-loop-at
invariant-loop-at l = IsHeldSoFar (InBasic l.basic) l.fn.second.0 l.until.0 l.at.0

abbrev pub decreases-loop-at : goal.decreases-loop-at
decreases-loop-at l = unsigned_abs (l.until.0 -ℤ l.at.0)
