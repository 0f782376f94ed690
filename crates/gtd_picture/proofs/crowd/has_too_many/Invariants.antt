use Rattle.std.proofs.Common.{◌≡◌, ◌≤◌, ◌+◌, length}
use Rattle.gtd_picture.proofs.crowd.has_too_many.Given as goal

-- how many spans were taken, and how many are left
abbrev pub invariant-loop-rest : goal.invariant-loop-rest
invariant-loop-rest g l = record {
  left : l.taken + length (g.S.SpanSource.rest l.rest) ≡ length (g.S.SpanSource.rest l.fn.seconds);
  few : l.taken ≤ 20000;
}

abbrev pub decreases-loop-rest : goal.decreases-loop-rest
decreases-loop-rest g l = length (g.S.SpanSource.rest l.rest)
