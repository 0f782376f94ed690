-- the points that were passed
use Rattle.std.proofs.Common.{◌≡◌, ◌-◌, ◌%◌, ◌≤◌, ◌<◌}
use Rattle.gtd_hours_plain2.specs.Clocks.{clocks_of}
use Rattle.gtd_hours_plain2.specs.Times.{AreAdded, InPointsBefore}
use Rattle.gtd_hours_plain2.proofs.times.push_points.Given as goal

abbrev pub invariant-loop-point : goal.invariant-loop-point
invariant-loop-point l = record {
  from : l.begin ≤ l.point;
  near : l.point < 70000;
  is_point : (l.point - l.begin) % l.step ≡ 0;
  added : AreAdded (InPointsBefore (clocks_of l.given) l.begin l.last l.step l.point) l.fn.out.items l.out.items;
}

abbrev pub decreases-loop-point : goal.decreases-loop-point
decreases-loop-point l = 70000 - l.point
