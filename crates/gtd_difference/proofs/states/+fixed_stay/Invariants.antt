-- Each side of an expression is smaller than the expression.
use Rattle.gtd_difference.specs.Pieces.{states_size}
use Rattle.gtd_difference.proofs.states.+fixed_stay.Given as goal

abbrev pub decreases-fixed_stay : goal.decreases-fixed_stay
decreases-fixed_stay l = states_size l.states.now
