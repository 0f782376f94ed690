-- The rules so far, with those of the rest, are those of the text; a fault of the rest is one of the text.
use Rattle.std.proofs.Common.{length}
use Rattle.gtd_hours_mended.proofs.MakingFacts.{AreJoined}
use Rattle.gtd_hours_mended.proofs.making.made_rules.Given as goal

abbrev pub invariant-loop-from : goal.invariant-loop-from
invariant-loop-from l = AreJoined l.text l.found l.initial.comments l.initial.forms l.rest l.comments l.forms l.made.items

abbrev pub decreases-loop-from : goal.decreases-loop-from
decreases-loop-from l = length l.rest
