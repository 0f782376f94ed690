use Rattle.std.proofs.Common.{◌≡◌, ◌<◌, ℕ, length, get_or}
use Rattle.gtd_repeats.proofs.findings.themselves.Given as goal

-- the rows so far
abbrev pub invariant-loop-row : goal.invariant-loop-row
invariant-loop-row l = record {
  many : length l.own.items ≡ l.row;
  each : (k : ℕ) → k < length l.own.items → get_or l.own.items k 0 ≡ k;
}
