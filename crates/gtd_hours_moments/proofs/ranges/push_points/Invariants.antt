-- With the points of the minutes that are left, the ranges become those of all minutes; each of these is before 24:00.
use Rattle.std.proofs.Common.{◌≡◌, ◌+◌, ◌<◌, ◌≤◌, ◌++◌}
use Rattle.gtd_hours_moments.specs.Ranges.{before_midnight, points_in}
use Rattle.gtd_hours_moments.proofs.ranges.push_points.Given as goal

abbrev pub invariant-loop-left : goal.invariant-loop-left
invariant-loop-left l = record {
  room : 0 < l.left → l.minute + l.left ≤ 1440;
  points : l.found.items ++ points_in l.left l.wait l.step l.minute l.point
      ≡ l.initial.found.items ++ points_in (before_midnight l.begin l.long) 0 l.step l.begin l.point;
}

abbrev pub decreases-loop-left : goal.decreases-loop-left
decreases-loop-left l = l.left
