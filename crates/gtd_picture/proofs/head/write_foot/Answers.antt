-- The months passed so far stand in the line, each at the place that the days before it give.
use Rattle.std.specs.Prelude.{pos}
use Rattle.gtd_picture.proofs.Made.{foot_more, foot_none}
use Rattle.gtd_picture.proofs.head.write_foot.Goals as goal

pub loop-before-init : goal.loop-before-init
loop-before-init c =
    foot_none (pos c.args.year) c.clear.new.self.items c.extend_from_slice.new.self.items c.clear.ensures.items
    c.in_ok-extend_from_slice.ensures.items

pub loop-before-preserved : goal.loop-before-preserved
loop-before-preserved c =
    foot_more (pos c.args.year) c.loop-before.before c.days_before_month-place.result c.loop-before.line.items
    c.write_month.new.line.items c.loop-before.invariant c.days_before_month-place.ensures.value c.in_ok-write_month.ensures.month
