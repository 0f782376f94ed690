-- Each half has fewer cursors than the whole.
use Rattle.std.specs.Prelude.{◌+◌, ◌*◌}
use Rattle.gtd_eval.proofs.tree.SweepTree.+joining.Given as goal

abbrev pub decreases-join_last : goal.decreases-join_last
decreases-join_last g l = 2 * l.count + 1

abbrev pub decreases-join_halves : goal.decreases-join_halves
decreases-join_halves g l = 2 * l.count
