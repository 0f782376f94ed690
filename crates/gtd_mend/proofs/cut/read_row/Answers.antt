-- Where nothing but line ends is left there is no row; otherwise the next one begins behind the empty lines.
use Rattle.std.proofs.Common.{arith}
use Rattle.csv.proofs.WriteFacts.{slice-end}
use Rattle.csv.specs.Records.{fields_of}
use Rattle.gtd_mend.proofs.CutFacts.{next_row, no_row}
use Rattle.gtd_mend.proofs.cut.read_row.Goals as goal

pub returns-then-before-text-clause-none : goal.returns-then-before-text-clause-none
returns-then-before-text-clause-none c = λ _.
    no_row c.args.separator c.args.text.now (rw c.line_ends-before.ensures.value at c.if-before-text.true)

pub returns-clause-row : goal.returns-clause-row
returns-clause-row c =
    let text = c.args.text.now in
    let before = c.line_ends-before.result in
    next_row c.args.separator before c.in_ok-length.field-0 text (fields_of c.read_fields.new.row)
    c.line_ends-before.ensures.value
    (omega arith) (rw (slice-end text before) at c.in_ok-length.ensures.read)
