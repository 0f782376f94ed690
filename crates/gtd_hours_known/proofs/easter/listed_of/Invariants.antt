-- Those so far, and those of the ones left, are all.
use Rattle.std.proofs.Common.{◌≡◌, ◌++◌, length}
use Rattle.gtd_hours_known.specs.Easter.{listed_of}
use Rattle.gtd_hours_known.proofs.easter.listed_of.Given as goal

abbrev pub invariant-loop-one : goal.invariant-loop-one
invariant-loop-one l = l.listed.items ++ listed_of l.rest ≡ listed_of l.easter

abbrev pub decreases-loop-one : goal.decreases-loop-one
decreases-loop-one l = length l.rest
