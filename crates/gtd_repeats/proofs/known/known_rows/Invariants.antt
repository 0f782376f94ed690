use Rattle.std.proofs.Common.{◌≡◌, ◌<◌, ◌≤◌, ℕ, length, get_or}
use Rattle.gtd_repeats.specs.Sameness.{row_at}
use Rattle.gtd_repeats.proofs.known.known_rows.Given as goal

-- those of the rows so far
abbrev pub invariant-loop-row : goal.invariant-loop-row
invariant-loop-row l = record {
  many : length l.known.items ≡ l.row;
  each : (k : ℕ) → k < length l.known.items → (get_or l.known.items k 0 ≤ k)
      × ((row_at l.fn.rows (get_or l.known.items k 0)).domain ≡ (row_at l.fn.rows k).domain);
}
