-- Each place that moves down keeps all places, only in another order.
use Rattle.std.proofs.Common.{◌∙◌}
use Rattle.std.proofs.lemmas.List.Sorted.{IsPermutation-trans}
use Rattle.gtd_places.proofs.spread.settle.Goals as goal

pub loop-at-preserved : goal.loop-at-preserved
loop-at-preserved c = record {
  moved = IsPermutation-trans _ _ _ c.loop-at.invariant.moved c.sink.ensures.moved;
  long = c.sink.ensures.long ∙ c.loop-at.invariant.long;
}
