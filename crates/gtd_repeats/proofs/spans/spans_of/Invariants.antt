use Rattle.std.proofs.Common.{◌≡◌, ◌<◌, ℕ, length, get_or, None}
use Rattle.std.specs.Prelude.{IfSome}
use Rattle.gtd_difference.specs.Difference.{IsHeldSpan}
use Rattle.gtd_records.specs.Closing.{HoldsAt}
use Rattle.gtd_repeats.specs.Sameness.{row_at}
use Rattle.gtd_repeats.proofs.spans.spans_of.Given as goal

-- those of the rows so far
abbrev pub invariant-loop-row : goal.invariant-loop-row
invariant-loop-row l = record {
  many : length l.spans.items ≡ l.row;
  each : (k : ℕ) → k < length l.spans.items
      → IfSome (get_or l.spans.items k None) (IsHeldSpan (HoldsAt (row_at l.fn.rows k).domain));
}
