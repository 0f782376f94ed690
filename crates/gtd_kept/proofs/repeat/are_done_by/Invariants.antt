-- The spans so far end by the second.
use Rattle.std.proofs.Common.{take}
use Rattle.gtd_kept.specs.Repeating.{AllDoneBy}
use Rattle.gtd_kept.proofs.repeat.are_done_by.Given as goal

abbrev pub invariant-loop-at : goal.invariant-loop-at
invariant-loop-at l = record {
  done : AllDoneBy l.second.0 (take l.at l.spans);
}
