use Rattle.std.proofs.Common.{◌≡◌, ◌<◌, ℕ, length, get_or, Some}
use Rattle.std.specs.BTreeMap.{get}
use Rattle.std.specs.Ordering.{nat_cmp}
use Rattle.gtd_repeats.specs.Buckets.{AreBelow}
use Rattle.gtd_repeats.proofs.buckets.buckets_of.Given as goal

-- each number so far has its bucket, which the map knows
abbrev pub invariant-loop-next : goal.invariant-loop-next
invariant-loop-next l = record {
  many : length l.indices.items ≡ l.next;
  known : (k : ℕ) → k < length l.indices.items → get nat_cmp l.known (get_or l.fn.numbers k 0) ≡ Some (get_or l.indices.items k 0);
  below : AreBelow l.known l.next;
}
