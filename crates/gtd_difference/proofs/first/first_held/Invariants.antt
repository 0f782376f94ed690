-- Spans that were passed end too early, so from the second on the rest holds what the whole source held.
use Rattle.std.proofs.Common.{◌↔◌, length}
use Rattle.std.specs.Prelude.{ℤ, ◌≤ℤ◌}
use Rattle.gtd_spans.specs.Normal.{Holds}
use Rattle.gtd_difference.proofs.first.first_held.Given as goal

abbrev pub invariant-loop-x : goal.invariant-loop-x
invariant-loop-x g l = (t : ℤ) → l.from.0 ≤ℤ t
    → Holds (g.S.SpanSource.rest l.initial.source) t ↔ Holds (g.S.SpanSource.rest l.source) t

abbrev pub decreases-loop-x : goal.decreases-loop-x
decreases-loop-x g l = length (g.S.SpanSource.rest l.source)
