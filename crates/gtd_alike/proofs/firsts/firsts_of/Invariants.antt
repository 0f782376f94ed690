use Rattle.std.proofs.Common.{◌≡◌, ◌<◌, ℕ, length, get_or}
use Rattle.gtd_alike.specs.Firsts.{IsEarlier}
use Rattle.gtd_alike.proofs.firsts.firsts_of.Given as goal

-- those of the things so far
abbrev pub invariant-loop-at : goal.invariant-loop-at
invariant-loop-at g l = record {
  many : length l.firsts.items ≡ l.at;
  each : (k : ℕ) → k < length l.firsts.items → IsEarlier (g.L.Likeness.alike l.things) (get_or l.firsts.items k 0) k;
}
