-- The first pair of numbers that is left is found among the tokens left, with the days and skipped tokens behind them.
use Rattle.std.proofs.Common.{◌≡◌, length, false}
use Rattle.gtd_hours_loose.specs.Pairs.{pair_left}
use Rattle.gtd_hours_loose.proofs.pairs.pair_left.Given as goal

abbrev pub invariant-loop-token : goal.invariant-loop-token
invariant-loop-token l = pair_left l.skipped l.days l.rest ≡ pair_left 0 false l.tokens

abbrev pub decreases-loop-token : goal.decreases-loop-token
decreases-loop-token l = length l.rest
