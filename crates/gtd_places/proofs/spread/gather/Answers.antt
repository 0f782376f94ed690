-- Each exchange of two places keeps them all, only in another order.
use Rattle.std.proofs.Common.{◌∙◌}
use Rattle.std.proofs.lemmas.List.Sorted.{IsPermutation-trans}
use Rattle.gtd_places.proofs.spread.gather.Goals as goal
use Rattle.gtd_places.proofs.spread.gather.Goals.{in-Some, in_default}

pub loop-preserved : goal.loop-preserved
loop-preserved c =
    let i = c.loop.invariant in
    elim c.match-place_for.branch [
      | in-Some w ↦
          rw (w.places-is) (record {
            moved = IsPermutation-trans _ _ _ i.moved w.swap.ensures.permutation;
            long = w.swap.ensures.len ∙ i.long;
          })
      | in_default w ↦ rw (w.places-is) (record { moved = i.moved; long = i.long })
    ]
