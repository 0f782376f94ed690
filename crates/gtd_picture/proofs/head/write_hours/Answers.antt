-- Each turn adds the label of one more hour, six hours after the last.
use Rattle.std.proofs.Common.{refl}
use Rattle.gtd_picture.proofs.Made.{no_hours, one_hour}
use Rattle.gtd_picture.proofs.head.write_hours.Goals as goal

pub loop-count-init : goal.loop-count-init
loop-count-init c = no_hours c.args.line.now.items

pub loop-count-preserved : goal.loop-count-preserved
loop-count-preserved c =
    one_hour c.args.line.now.items c.loop-count.line.items c.write_hour.new.line.items c.loop-count.count _ c.loop-count.invariant
    refl c.in_ok-write_hour.ensures.hour
