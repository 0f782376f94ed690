-- Each side of an expression is smaller than the expression.
use Rattle.gtd_difference.specs.Pieces.{states_size}
use Rattle.gtd_difference.proofs.states.+fix.Given as goal

abbrev pub decreases-fix : goal.decreases-fix
decreases-fix l = states_size l.states.now
