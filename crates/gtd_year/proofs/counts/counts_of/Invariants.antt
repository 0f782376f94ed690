use Rattle.std.proofs.Common.{◌≡◌, ◌↔◌, length}
use Rattle.std.specs.Prelude.{ℤ, pos, ◌+ℤ◌, ◌*ℤ◌, ◌≤ℤ◌}
use Rattle.gtd_spans.specs.Normal.{Holds}
use Rattle.gtd_year.specs.Counts.{AreCounts}
use Rattle.gtd_year.proofs.counts.counts_of.Given as goal

-- the numbers of the days so far, and what is to come has the seconds of the days left
abbrev pub invariant-loop-place : goal.invariant-loop-place
invariant-loop-place g l = record {
  many : length l.counts.items ≡ l.place;
  are : AreCounts (Holds l.fn.seconds) l.fn.first l.counts.items;
  left : (t : ℤ) → ((l.fn.first +ℤ pos l.place) *ℤ pos 86400) ≤ℤ t → Holds l.fn.seconds t ↔ Holds l.seconds t;
}
