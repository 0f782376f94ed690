use Rattle.std.proofs.Common.{◌≡◌, ℕ, false, get_or, length}
use Rattle.gtd_hours_holidays.proofs.days.grow.Given as goal

-- only marks that say no are added, so many
abbrev pub invariant-loop : goal.invariant-loop
invariant-loop l = record {
  same : (k : ℕ) → get_or l.marks.items k false ≡ get_or l.fn.marks.items k false;
  many : length l.marks.items ≡ l.counter;
}
