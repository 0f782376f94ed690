use Rattle.std.proofs.Common.{◌≡◌, ◌<◌, ℕ, length, get_or}
use Rattle.gtd_repeats.specs.Sameness.{row_at}
use Rattle.gtd_repeats.proofs.kin.elements_of.Given as goal

-- those of the rows so far
abbrev pub invariant-loop-row : goal.invariant-loop-row
invariant-loop-row l = record {
  many : length l.elements.items ≡ l.row;
  each : (k : ℕ) → k < length l.elements.items → get_or l.elements.items k 0 ≡ (row_at l.fn.rows k).element;
}
