-- At each turn a minute passes, at which a point is put or not.
use Rattle.std.proofs.Common.{◌≡◌, ◌+◌, ◌-◌, ◌++◌, ◌∙◌, List, Vec, Global, subst, sym, arith}
use Rattle.gtd_hours_moments.specs.Ranges.{before_midnight, points_in}
use Rattle.gtd_hours_moments.specs.declared.ranges.MinuteRange.{MinuteRange}
use Rattle.gtd_hours_moments.proofs.PointLemmas.{minute_passed, point_put}
use Rattle.gtd_hours_moments.proofs.ranges.push_points.Goals.{then-wait-eq0+in_ok-push_range, else-wait-eq0}
use Rattle.gtd_hours_moments.proofs.ranges.push_points.Goals as goal

pub loop-left-preserved : goal.loop-left-preserved
loop-left-preserved c =
    let all = c.args.found.now.items
    ++ points_in (before_midnight c.args.begin c.args.long) 0 c.args.step c.args.begin c.args.point in
    let left = c.loop-left.left in
    let minute = c.loop-left.minute in
    let P : List MinuteRange → Type 0 = λ found. found
    ++ points_in (left - 1) c.if-wait-eq0.wait c.args.step (minute + 1) c.args.point ≡ all in
    record {
      room = λ some. let r = c.loop-left.invariant.room c.loop-left-test.true in omega (arith, r, c.loop-left-test.true);
      points = elim c.if-wait-eq0.branch [
        | then-wait-eq0+in_ok-push_range w ↦ subst (λ (v : Vec MinuteRange Global). P v.items) (sym w.found-is)
            (point_put c.loop-left.found.items w.push_range.new.found.items all left c.loop-left.wait c.if-wait-eq0.wait
            c.args.step minute c.args.point w.from.result c.loop-left-test.true w.if-wait-eq0.true
            (w.wait-is ∙ w.saturating_sub-wait.ensures) w.from.ensures w.in_ok-push_range.ensures
            c.loop-left.invariant.points)
        | else-wait-eq0 w ↦ subst (λ (v : Vec MinuteRange Global). P v.items) (sym w.found-is)
            (minute_passed c.loop-left.found.items all left c.loop-left.wait c.if-wait-eq0.wait c.args.step minute c.args.point
            c.loop-left-test.true w.if-wait-eq0.false w.wait-is c.loop-left.invariant.points)
      ];
    }
