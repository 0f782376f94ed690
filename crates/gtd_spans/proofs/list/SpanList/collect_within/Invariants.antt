-- The list and what is still to come make up the whole, and the list is no longer than it may be.
use Rattle.std.proofs.Common.{◌≡◌, ◌≤◌, ◌++◌, length}
use Rattle.gtd_spans.proofs.list.SpanList.collect_within.Given as goal

abbrev pub invariant-loop-span : goal.invariant-loop-span
invariant-loop-span g l = record {
  all : g.S.SpanSource.rest l.initial.source ≡ l.list ++ g.S.SpanSource.rest l.source;
  few : length l.list ≤ l.most;
}

abbrev pub decreases-loop-span : goal.decreases-loop-span
decreases-loop-span g l = length (g.S.SpanSource.rest l.source)
