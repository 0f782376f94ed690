use Rattle.std.proofs.Common.{◌≡◌, length}
use Rattle.gtd_repeats.specs.Firsts.{AreSoFar}
use Rattle.gtd_repeats.proofs.firsts.firsts_of.Given as goal

-- the first rows that are like those so far
abbrev pub invariant-loop-row : goal.invariant-loop-row
invariant-loop-row g l = record {
  many : length l.firsts.items ≡ l.row;
  buckets : length l.buckets.items ≡ length l.numbers;
  so_far : AreSoFar (g.L.Likeness.alike l.rows) l.numbers l.indices.items l.firsts.items l.buckets.items;
}
