-- Each turn adds the line of one more row, and at the end of the bytes no row is left.
use Rattle.std.proofs.Common.{arith, length, ◌+◌}
use Rattle.gtd_lines.proofs.CountFacts.{all_lines, first_lines, more_lines}
use Rattle.gtd_lines.proofs.lines.lines_of.Goals as goal

pub loop-place-init : goal.loop-place-init
loop-place-init c =
    rw (c.new-lines.ensures.items)
    (first_lines c.args.bytes.now c.next-place.result (c.next-place.ensures.place 0 c.first.ensures.place))

pub loop-place-preserved : goal.loop-place-preserved
loop-place-preserved c =
    let so_far = c.loop-place.invariant in
    rw (c.in_ok-push.ensures.items)
    (more_lines c.args.bytes.now c.loop-place.lines.items c.loop-place.place c.next-place-in-loop-place.result so_far
    (omega arith) (c.next-place-in-loop-place.ensures.place (length c.loop-place.lines.items + 1) so_far.here))

pub returns : goal.returns
returns c = record {
  lines = all_lines c.args.bytes.now c.loop-place.lines.items c.loop-place.place c.loop-place.invariant (omega arith);
}
