use Rattle.std.proofs.Common.{◌≡◌, ◌<◌, ℕ, length, get_or}
use Rattle.gtd_repeats.specs.Numbers.{joint_number}
use Rattle.gtd_repeats.specs.Sameness.{row_at}
use Rattle.gtd_repeats.proofs.numbers.joint_numbers.Given as goal

-- those of the rows so far
abbrev pub invariant-loop-row : goal.invariant-loop-row
invariant-loop-row l = record {
  many : length l.numbers.items ≡ l.row;
  each : (k : ℕ) → k < length l.numbers.items
      → get_or l.numbers.items k 0 ≡ joint_number (row_at l.fn.rows k).element (get_or l.fn.firsts k 0);
}
