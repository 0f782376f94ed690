-- At each turn the text has the fields passed so far, with separators between them.
use Rattle.std.proofs.Common.{arith}
use Rattle.csv.specs.Records.{fields_of}
use Rattle.gtd_mend.specs.Mended.{writer_of}
use Rattle.gtd_mend.proofs.PrintFacts.{body_more, not_absent}
use Rattle.gtd_mend.proofs.print.push_body.Goals as goal

pub loop-i-preserved : goal.loop-i-preserved
loop-i-preserved c =
    body_more (writer_of c.args.separator) c.args.text.now.items c.loop-i.text.items c.push_next.new.text.items
    c.in-Some.field.now
    (fields_of c.args.row.now) c.loop-i.i (omega arith) c.in-Some.ensures.value c.loop-i.invariant c.in_ok-push_next.ensures.text

pub returns-in_default : goal.returns-in_default
returns-in_default c = absurd (not_absent (fields_of c.args.row.now) c.loop-i.i (omega arith) c.in_default.ensures.value)
