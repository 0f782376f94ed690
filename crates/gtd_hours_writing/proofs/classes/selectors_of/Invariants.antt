-- The selectors so far, with those of the rest, are all.
use Rattle.std.proofs.Common.{◌≡◌, ◌++◌, length}
use Rattle.gtd_hours_writing.specs.Selecting.{selectors_of}
use Rattle.gtd_hours_writing.proofs.classes.selectors_of.Given as goal

abbrev pub invariant-loop-kind : goal.invariant-loop-kind
invariant-loop-kind l = l.found.items ++ selectors_of l.class l.rest ≡ selectors_of l.class l.kinds

abbrev pub decreases-loop-kind : goal.decreases-loop-kind
decreases-loop-kind l = length l.rest
