-- The rules of hours so far are those of the rules that were passed, of which the table says all.
use Rattle.std.proofs.Common.{length}
use Rattle.gtd_hours_known.specs.Given.{AreAllGiven}
use Rattle.gtd_hours_known.specs.Rules.{AreAllStrict}
use Rattle.gtd_hours_known.proofs.RuleFacts.{AreCovered, AreJoined}
use Rattle.gtd_hours_known.proofs.rules.hours_of_rules.Given as goal

abbrev pub invariant-loop-rule : goal.invariant-loop-rule
invariant-loop-rule l = record {
  joins : AreJoined l.known l.rules l.rest l.made.items;
  covered : AreCovered l.known l.rules l.rest;
  strict : AreAllStrict l.rest;
  given : AreAllGiven l.known l.rest;
}

abbrev pub decreases-loop-rule : goal.decreases-loop-rule
decreases-loop-rule l = length l.rest
