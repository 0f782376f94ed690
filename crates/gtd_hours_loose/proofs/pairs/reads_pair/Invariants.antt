-- Whether a pair is read as times is the same of the tokens left, behind days or not, as of all, since none is passed.
use Rattle.std.proofs.Common.{◌≡◌, length, false}
use Rattle.gtd_hours_loose.specs.Pairs.{reads_pair}
use Rattle.gtd_hours_loose.proofs.pairs.reads_pair.Given as goal

abbrev pub invariant-loop-token : goal.invariant-loop-token
invariant-loop-token l = reads_pair l.days l.rest ≡ reads_pair false l.tokens

abbrev pub decreases-loop-token : goal.decreases-loop-token
decreases-loop-token l = length l.rest
