use Rattle.std.proofs.Common.{◌≡◌, ◌<◌, ℕ, length, get_or}
use Rattle.gtd_core.specs.Whole.{whole}
use Rattle.gtd_repeats.specs.Numbers.{IsFinerOf}
use Rattle.gtd_repeats.proofs.finer.finer_numbers.Given as goal

-- those of the rows so far
abbrev pub invariant-loop : goal.invariant-loop
invariant-loop l = record {
  many : length l.made.items ≡ l.counter;
  each : (k : ℕ) → k < length l.made.items → IsFinerOf (whole l.fn.days).from (whole l.fn.days).until l.fn.texts.rows.now
      l.fn.marked.marks.now l.fn.marked.indices.now l.fn.marked.numbers.now k (get_or l.made.items k 0);
}
