-- the plain rules of the rules that were passed
use Rattle.std.proofs.Common.{length}
use Rattle.gtd_hours_plain2.specs.Clocks.{clocks_of}
use Rattle.gtd_hours_plain2.specs.Lowered.{given_of}
use Rattle.gtd_hours_plain2.specs.Times.{AreAllOfDay}
use Rattle.gtd_hours_plain2.proofs.Lowering.{AreJoined}
use Rattle.gtd_hours_plain2.proofs.plain.plain_rules.Given as goal

abbrev pub invariant-loop-rule : goal.invariant-loop-rule
invariant-loop-rule g l = record {
  joins : AreJoined (given_of (g.D.RuleDays.holiday l.days) (g.D.RuleDays.years l.days) (clocks_of l.times))
      l.rules l.rest l.made.items;
  left : AreAllOfDay (clocks_of l.times) l.rest;
}

abbrev pub decreases-loop-rule : goal.decreases-loop-rule
decreases-loop-rule g l = length l.rest
