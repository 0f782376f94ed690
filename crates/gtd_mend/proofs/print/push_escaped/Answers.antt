-- At each turn the text has the bytes passed so far, their quotes doubled.
use Rattle.std.proofs.Common.{arith, sym}
use Rattle.std.proofs.lemmas.List.{append-nil}
use Rattle.csv.specs.Writing.{escaped}
use Rattle.gtd_mend.specs.Mended.{writer_of}
use Rattle.gtd_mend.proofs.PrintFacts.{escaped_more}
use Rattle.gtd_mend.proofs.print.push_escaped.Goals as goal

pub loop-byte-init : goal.loop-byte-init
unfolding escaped
loop-byte-init c = λ separator. sym (append-nil c.args.text.now.items)

pub loop-byte-preserved : goal.loop-byte-preserved
loop-byte-preserved c = λ separator.
    escaped_more (writer_of separator) c.args.text.now.items c.loop-byte.text.items c.push_byte.new.text.items c.args.field.now
    c.loop-byte.byte-index (omega arith) (c.loop-byte.invariant separator) (c.in_ok-push_byte.ensures.text separator)
