-- The row read byte by byte ends where its line ends, or with the text: what was taken is then one row.
use Rattle.std.proofs.Common.{arith}
use Rattle.csv.specs.Records.{fields_of}
use Rattle.gtd_mend.proofs.CutFacts.{ended, fed, stopped}
use Rattle.gtd_mend.proofs.cut.read_fields.Goals as goal

pub returns-in-None-clause-read : goal.returns-in-None-clause-read
returns-in-None-clause-read c =
    ended c.args.separator c.args.text.now c.loop-at.at c.loop-at.within (fields_of c.loop-at.row) c.loop-at.field.items
    c.loop-at.invariant.1 (fields_of c.feed.new.row) c.feed.new.field.items (omega arith)
    (rw c.in-None.is at c.in_ok-next.ensures.fed)

pub loop-at-preserved : goal.loop-at-preserved
loop-at-preserved c = (
  c.in_ok-next.ensures.bare,
  fed c.args.separator c.args.text.now c.loop-at.at c.loop-at.within (fields_of c.loop-at.row) c.loop-at.field.items
      c.loop-at.invariant.1 c.in-Some.next (fields_of c.feed.new.row) c.feed.new.field.items (omega arith)
      (rw c.in-Some.is at c.in_ok-next.ensures.fed),
)

pub returns-clause-read : goal.returns-clause-read
returns-clause-read c =
    rw c.in_ok-end_field.ensures.fields (stopped c.args.separator c.args.text.now c.loop-at.at c.loop-at.within
    (fields_of c.loop-at.row) c.loop-at.field.items c.loop-at.invariant.1 (omega arith))
