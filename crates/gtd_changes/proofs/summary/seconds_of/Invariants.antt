use Rattle.std.proofs.Common.{◌+◌, ℕ, length}
use Rattle.std.specs.Prelude.{ℤ}
use Rattle.gtd_core.specs.Seconds.{Within}
use Rattle.gtd_core.specs.Whole.{whole}
use Rattle.gtd_spans.specs.Normal.{Holds}
use Rattle.gtd_changes.specs.Summary.{HasSeconds}
use Rattle.gtd_changes.proofs.summary.seconds_of.Given as goal

-- what is counted, and the seconds of the spans to come, make those of all
abbrev pub invariant-loop-span : goal.invariant-loop-span
invariant-loop-span g l = record {
  inside : (t : ℤ) → Holds (g.S.SpanSource.rest l.source) t → Within (whole l.horizon) t;
  counted : (more : ℕ) → HasSeconds l.horizon (Holds (g.S.SpanSource.rest l.source)) more
      → HasSeconds l.horizon (Holds (g.S.SpanSource.rest l.fn.source)) (l.count + more);
}

abbrev pub decreases-loop-span : goal.decreases-loop-span
decreases-loop-span g l = length (g.S.SpanSource.rest l.source)
