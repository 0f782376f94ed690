use Rattle.std.proofs.Common.{◌+◌, ℕ, length, ◌↔◌}
use Rattle.std.specs.Prelude.{ℤ, ◌≤ℤ◌}
use Rattle.gtd_spans.specs.Normal.{Holds, IsNormal}
use Rattle.gtd_spans.specs.Counting.{IsCount, part_within, spans_to_come}
use Rattle.gtd_spans.proofs.by_day.count_day.Given as goal

-- what is counted, and what the spans to come have on the day, make what there was
abbrev pub invariant-loop-part : goal.invariant-loop-part
invariant-loop-part g l = record {
  normal : IsNormal (spans_to_come l.held (g.S.SpanSource.rest l.source));
  counted : (more : ℕ)
      → IsCount (Holds (part_within l.day (spans_to_come l.held (g.S.SpanSource.rest l.source)))) l.fn.midnight.0 86400 more
      → IsCount (Holds (part_within l.day (spans_to_come l.fn.held (g.S.SpanSource.rest l.fn.source)))) l.fn.midnight.0 86400
      (l.count + more);
  later : (t : ℤ) → l.day.until ≤ℤ t
      → Holds (spans_to_come l.fn.held (g.S.SpanSource.rest l.fn.source)) t
      ↔ Holds (spans_to_come l.held (g.S.SpanSource.rest l.source)) t;
}

abbrev pub decreases-loop-part : goal.decreases-loop-part
decreases-loop-part g l = length (part_within l.day (spans_to_come l.held (g.S.SpanSource.rest l.source)))
