-- The spans so far are moved, and the others are as they were.
use Rattle.std.proofs.Common.{◌≡◌, length, take, drop, map}
use Rattle.gtd_kept.specs.Repeating.{moved}
use Rattle.gtd_kept.proofs.repeat.move_all.Given as goal

abbrev pub invariant-loop-at : goal.invariant-loop-at
invariant-loop-at l = record {
  moved : take l.at l.spans ≡ map (moved l.by) (take l.at l.fn.spans);
  others : drop l.at l.spans ≡ drop l.at l.fn.spans;
  count : length l.spans ≡ length l.fn.spans;
}
