use Rattle.std.proofs.Common.{◌≡◌, ◌↔◌, length}
use Rattle.std.specs.Prelude.{ℤ, ◌≤ℤ◌}
use Rattle.gtd_spans.specs.Counting.{part_within, spans_to_come}
use Rattle.gtd_spans.specs.Normal.{Holds, IsNormal}
use Rattle.gtd_spans.proofs.by_day.next_within.Given as goal

-- what was taken off lies before the bounds
abbrev pub invariant-loop-held : goal.invariant-loop-held
invariant-loop-held g l = record {
  normal : IsNormal (spans_to_come l.held (g.S.SpanSource.rest l.source));
  same : part_within l.bounds (spans_to_come l.fn.held (g.S.SpanSource.rest l.fn.source)) ≡ part_within l.bounds
      (spans_to_come l.held (g.S.SpanSource.rest l.source));
  later : (t : ℤ) → l.bounds.until ≤ℤ t
      → Holds (spans_to_come l.fn.held (g.S.SpanSource.rest l.fn.source)) t ↔ Holds (spans_to_come l.held (g.S.SpanSource.rest
      l.source)) t;
}

abbrev pub decreases-loop-held : goal.decreases-loop-held
decreases-loop-held g l = length (spans_to_come l.held (g.S.SpanSource.rest l.source))
