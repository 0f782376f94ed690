use Rattle.std.proofs.Common.{rules, ◌≡◌, ◌+◌, ◌<◌, false, arith}
use Rattle.gtd_hours_text2.specs.Parts.{nth}
use Rattle.gtd_hours_text2.proofs.Numbering.{push_more}
use Rattle.gtd_hours_text2.proofs.brackets.push_numbers.Goals as goal

pub loop-number-preserved : goal.loop-number-preserved
loop-number-preserved c =
    let below : c.loop-number.number < c.args.last + 1 = search rules in
    rw c.in_ok-push.ensures.items
    (push_more c.loop-number.out.items _ _ c.loop-number.number (c.args.last + 1) below (search rules)
    c.loop-number.invariant)
