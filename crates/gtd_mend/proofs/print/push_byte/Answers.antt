-- A quote is appended twice and any other byte once, whatever the separator is.
use Rattle.std.proofs.Common.{refl, arith}
use Rattle.csv.proofs.WriteFacts.{escaped-double, escaped-other}
use Rattle.gtd_mend.specs.Mended.{writer_of}
use Rattle.gtd_mend.proofs.print.push_byte.Goals as goal

pub returns-then-byte-eq34 : goal.returns-then-byte-eq34
returns-then-byte-eq34 c = record {
  text = λ separator.
      rw (escaped-double (writer_of separator) c.args.byte (omega arith) refl, c.if-byte-eq34.true)
      c.in_ok-extend_from_slice.ensures.items;
}

pub returns : goal.returns
returns c = record {
  text = λ separator. rw (escaped-other (writer_of separator) c.args.byte (λ e. omega (arith, e))) c.in_ok-push.ensures.items;
}
