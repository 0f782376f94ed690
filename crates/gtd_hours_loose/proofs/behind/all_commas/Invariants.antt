-- The tokens left are all commas exactly if the tokens at the beginning are, since those passed are commas.
use Rattle.std.proofs.Common.{◌≡◌, length}
use Rattle.gtd_hours_loose.specs.Behind.{all_commas}
use Rattle.gtd_hours_loose.proofs.behind.all_commas.Given as goal

abbrev pub invariant-loop-token : goal.invariant-loop-token
invariant-loop-token l = all_commas l.rest ≡ all_commas l.tokens

abbrev pub decreases-loop-token : goal.decreases-loop-token
decreases-loop-token l = length l.rest
