-- the ranges of the parts that were passed
use Rattle.std.proofs.Common.{length}
use Rattle.gtd_hours_plain2.specs.Clocks.{clocks_of}
use Rattle.gtd_hours_plain2.specs.Times.{AreOfDay}
use Rattle.gtd_hours_plain2.proofs.Ranges.{AreSoFar}
use Rattle.gtd_hours_plain2.proofs.times.plain_times.Given as goal

abbrev pub invariant-loop-part : goal.invariant-loop-part
invariant-loop-part l = record {
  so_far : AreSoFar (clocks_of l.given) l.parts l.rest l.out.items;
  left : AreOfDay (clocks_of l.given) l.rest;
}

abbrev pub decreases-loop-part : goal.decreases-loop-part
decreases-loop-part l = length l.rest
