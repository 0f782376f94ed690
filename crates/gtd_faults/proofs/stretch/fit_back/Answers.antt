-- The same from a place back: where the byte before does not fit, none in front of it is counted.
use Rattle.std.proofs.Common.{arith}
use Rattle.gtd_faults.proofs.StretchFacts.{back_more, back_none}
use Rattle.gtd_faults.proofs.stretch.fit_back.Goals as goal

pub returns-then-width-left-clause-count : goal.returns-then-width-left-clause-count
returns-then-width-left-clause-count c =
    let i = c.loop-count.invariant in
    let n = back_none c.loop-count.left c.args.place c.loop-count.count c.args.bytes.now (omega arith)
    (rw c.width-width.ensures at c.if-width-left.true) in
    omega (arith, i, n)

pub loop-count-preserved : goal.loop-count-preserved
loop-count-preserved c =
    let i = c.loop-count.invariant in
    let w = c.width-width.ensures in
    let n = back_more c.loop-count.left c.args.place c.loop-count.count c.args.bytes.now (omega arith)
    (rw w at c.if-width-left.false) in
    rw w (omega (arith, i, n))
