use Rattle.std.proofs.Common.{◌≡◌, ◌<◌, ◌≤◌, length}
use Rattle.gtd_hours_holidays.specs.Marks.{AreMarked}
use Rattle.gtd_hours_holidays.proofs.days.mark.Given as goal

-- the marks so far are set
abbrev pub invariant-loop-place : goal.invariant-loop-place
invariant-loop-place l = record {
  marked : AreMarked l.fn.marks.items l.marks.items l.first l.place;
  begun : l.first ≤ l.place;
  short : l.first < l.until → l.place ≤ l.until;
  empty : l.until ≤ l.first → l.place ≡ l.first;
  many : length l.marks.items ≡ length l.fn.marks.items;
}
