-- Each exchange with the place before keeps all places, only in another order.
use Rattle.std.proofs.Common.{◌∙◌}
use Rattle.std.proofs.lemmas.List.Sorted.{IsPermutation-trans}
use Rattle.gtd_places.proofs.spread.sink.Goals as goal

pub loop-step-preserved : goal.loop-step-preserved
loop-step-preserved c = record {
  moved = IsPermutation-trans _ _ _ c.loop-step.invariant.moved c.swap.ensures.permutation;
  long = c.swap.ensures.len ∙ c.loop-step.invariant.long;
}
