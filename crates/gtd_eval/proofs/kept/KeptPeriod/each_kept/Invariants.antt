-- What was handed on so far are first spans inside of the bounds, and the taker is ready for more of them.
use Rattle.std.proofs.Common.{◌≡◌, true, length}
use Rattle.gtd_eval.specs.Cursors.{cursor_list, cursor_whole}
use Rattle.gtd_eval.specs.Within.{AreInside, IsReadyWithin, TakesWithin}
use Rattle.gtd_kept.specs.Kept.{FitsTree, IsLapEnded, rest_of}
use Rattle.gtd_kept.specs.Repeating.{IsRepeating}
use Rattle.gtd_eval.proofs.kept.KeptPeriod.each_kept.Given as goal

abbrev pub invariant-loop-x : goal.invariant-loop-x
invariant-loop-x g l = record {
  kept : FitsTree l.again (cursor_list l.inner) (cursor_whole l.inner);
  repeating : IsRepeating l.again.stage;
  ended : IsLapEnded l.again;
  takes : TakesWithin g.T.SpanTaker.is_ready g.T.SpanTaker.takes (AreInside l.bounds) (rest_of l.initial.again
      (cursor_list l.inner))
      l.initial.into l.initial.taker (rest_of l.again (cursor_list l.inner)) l.into l.taker true;
  ready : IsReadyWithin g.T.SpanTaker.is_ready (AreInside l.bounds) (rest_of l.again (cursor_list l.inner)) l.into l.taker;
  room : l.again.room ≡ l.initial.again.room;
}

abbrev pub decreases-loop-x : goal.decreases-loop-x
decreases-loop-x g l = length (rest_of l.again (cursor_list l.inner))
