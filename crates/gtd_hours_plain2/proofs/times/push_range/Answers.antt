-- The range is the last one.
use Rattle.gtd_hours_plain2.proofs.Ranges.{range_added}
use Rattle.gtd_hours_plain2.proofs.times.push_range.Goals as goal

pub returns : goal.returns
returns c = range_added c.args.out.now.items _ c.range.result c.args.begin c.args.end c.in_ok-push.ensures.items
    c.range.ensures.begin c.range.ensures.last c.requires.some
