-- Each point is added once.
use Rattle.std.proofs.Common.{◌+◌, ℕ, ap, arith}
use Rattle.gtd_hours_plain2.specs.Clocks.{clocks_of}
use Rattle.gtd_hours_plain2.proofs.Ranges.{all_points, first_added, first_is, next_added, next_is}
use Rattle.gtd_hours_plain2.proofs.times.push_points.Goals as goal

pub loop-point-init : goal.loop-point-init
loop-point-init c =
    let begin = c.args.begin in
    record {
      from = omega arith;
      near = omega (arith, c.from.ensures, c.ranges.step.fits, c.requires.day);
      is_point = first_is begin c.args.step c.from.result c.from.ensures;
      added = first_added (clocks_of c.args.given.now) begin c.args.last c.args.step c.from.result (begin + c.points-long.result)
          c.args.out.now.items c.push_range.new.out.items c.from.ensures c.requires.step c.requires.some c.requires.day
          (ap (λ (m : ℕ). begin + m) c.points-long.ensures.value) c.in_ok-push_range.ensures;
    }

pub loop-point-preserved : goal.loop-point-preserved
loop-point-preserved c =
    let point = c.loop-point.point in
    let so_far = c.loop-point.invariant in
    record {
      from = omega (arith, so_far.from);
      near = omega (arith, c.from-point.ensures, c.ranges.step.fits, c.if-point-lt1440.true);
      is_point = next_is c.args.begin point c.args.step c.from-point.result c.from-point.ensures so_far.from so_far.is_point;
      added = next_added (clocks_of c.args.given.now) c.args.begin c.args.last c.args.step c.from-point.result point
          (point + c.points-long.result) c.args.out.now.items c.loop-point.out.items c.push_range-in-loop-point.new.out.items
          c.from-point.ensures c.requires.step so_far.from c.loop-point-test.true c.if-point-lt1440.true so_far.is_point
          (ap (λ (m : ℕ). point + m) c.points-long.ensures.value) so_far.added c.in_ok-push_range-2.ensures;
    }

pub returns-after-loop-point : goal.returns-after-loop-point
returns-after-loop-point c =
    all_points (clocks_of c.args.given.now) c.args.begin c.args.last c.args.step c.loop-point.point c.args.out.now.items
    c.loop-point.out.items (λ most day. omega (arith, most, c.loop-point-test.false)) c.loop-point.invariant.added

pub returns-else-point-lt1440 : goal.returns-else-point-lt1440
returns-else-point-lt1440 c =
    all_points (clocks_of c.args.given.now) c.args.begin c.args.last c.args.step c.loop-point.point c.args.out.now.items
    c.loop-point.out.items (λ most day. omega (arith, day, c.if-point-lt1440.false)) c.loop-point.invariant.added
