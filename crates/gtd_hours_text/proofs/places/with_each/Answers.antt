-- One place more is added at each turn; behind the last turn the list has the weekday at each place of the range.
use Rattle.std.proofs.Common.{arith}
use Rattle.gtd_hours_text.proofs.PlaceLemmas.{all_added, one_added}
use Rattle.gtd_hours_text.proofs.places.with_each.Goals as goal

pub loop-number-preserved : goal.loop-number-preserved
loop-number-preserved c =
    one_added c.args.list.items c.loop-number.selectors.items c.in_ok-selectors.selectors.items c.args.first.weekday
    c.args.first.number c.loop-number.number c.args.last.number (omega (arith, c.loop-number-test.true)) c.loop-number.invariant
    c.in_ok-selectors.ensures

pub returns : goal.returns
returns c =
    all_added c.args.list.items c.loop-number.selectors.items c.args.first.weekday c.args.first.number c.loop-number.number
    c.args.last.number (omega (arith, c.loop-number-test.false)) c.loop-number.invariant
