use Rattle.std.proofs.Common.{◌≡◌, ℕ, [], length}
use Rattle.gtd_repeats.specs.Buckets.{entries_at}
use Rattle.gtd_repeats.proofs.buckets.empty_buckets.Given as goal

-- so many are made, and none has an entry
abbrev pub invariant-loop : goal.invariant-loop
invariant-loop l = record {
  many : length l.buckets.items ≡ l.counter;
  empty : (place : ℕ) → entries_at l.buckets.items place ≡ [];
}
