-- At each turn no span of the list begins after the latest start.
use Rattle.gtd_spans.specs.Pushing.{NoneBeginsAfter}
use Rattle.gtd_test_layers.proofs.lists.list_of.Given as goal

abbrev pub invariant-loop-from : goal.invariant-loop-from
invariant-loop-from g l = NoneBeginsAfter l.latest.0 l.list
