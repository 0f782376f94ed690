-- What is left out so far ends by the second, and what is kept fits what is left.
use Rattle.std.proofs.Common.{◌≡◌, List}
use Rattle.gtd_core.specs.Seconds.{Interval}
use Rattle.gtd_spans.specs.Normal.{IsNormal}
use Rattle.gtd_kept.specs.Kept.{CanBeginAgain, HasKept, IsLapEnded}
use Rattle.gtd_kept.specs.Repeating.{IsRepeating, to_come}
use Rattle.gtd_spans.specs.Skipping.{LeavesOut}
use Rattle.gtd_kept.proofs.repeat.Repeat.skip_spans.Given as goal

abbrev pub invariant-loop : goal.invariant-loop
invariant-loop l = record {
  leaves : (xs : List Interval) → IsNormal xs → HasKept l.fn.self xs
      → LeavesOut l.second.0 (to_come l.fn.self.stage xs) (to_come l.self.stage xs);
  kept : (xs : List Interval) → IsNormal xs → HasKept l.fn.self xs → HasKept l.self xs;
  again : (xs : List Interval) → CanBeginAgain l.fn.self xs → CanBeginAgain l.self xs;
  ended : IsLapEnded l.fn.self → IsLapEnded l.self;
  told : l.self.told.items ≡ l.fn.self.told.items;
  repeating : IsRepeating l.self.stage;
  room : l.self.room ≡ l.fn.self.room;
}
