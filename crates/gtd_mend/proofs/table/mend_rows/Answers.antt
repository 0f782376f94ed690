-- At each turn the table holds the rows read so far, each with the line on which it begins.
use Rattle.std.proofs.Common.{◌+◌, ◌-◌, ap, arith, drop, length, take, ℕ}
use Rattle.std.proofs.lemmas.List.{length-drop, length-take}
use Rattle.csv.proofs.WriteFacts.{slice-end}
use Rattle.csv.specs.Records.{fields_of}
use Rattle.gtd_mend.proofs.TableFacts.{all_read, end_read, none_yet, row_read}
use Rattle.gtd_mend.proofs.table.mend_rows.Goals as goal

pub loop-at-init : goal.loop-at-init
loop-at-init c = none_yet c.args.path.now c.args.separator c.args.text.now c.new-table.result c.new-table.ensures.empty

pub returns-in-None : goal.returns-in-None
returns-in-None c = record {
  rows = all_read c.args.path.now c.args.separator c.args.text.now c.loop-at.at c.loop-at.line c.loop-at.table c.loop-at.invariant
      (rw (c.byte.ensures.value, slice-end c.args.text.now c.loop-at.at) at (c.in_ok-taken.ensures.none c.in-None.is));
}

pub overflow_add-line : goal.overflow_add-line
overflow_add-line c =
    let few = c.loop-at.invariant.few in
    let within = c.loop-at.invariant.within in
    let taken = rw c.in-Some.is at c.in_ok-taken.ensures.few in
    let feeds = c.line_feeds.ensures.few in
    let left = take (length c.args.text.now - c.loop-at.at) (drop c.loop-at.at c.args.text.now) in
    let all = length-take (length c.args.text.now - c.loop-at.at) (drop c.loop-at.at c.args.text.now) in
    let size = length-take c.in-Some.taken.before left in
    let rest = length-drop c.loop-at.at c.args.text.now in
    omega (arith, few, within, taken, feeds, all, size, rest)

pub overflow_add-line-in-loop-at : goal.overflow_add-line-in-loop-at
overflow_add-line-in-loop-at c =
    let few = c.loop-at.invariant.few in
    let within = c.loop-at.invariant.within in
    let taken = rw c.in-Some.is at c.in_ok-taken.ensures.few in
    let feeds = c.line_feeds-line.ensures.few in
    let left = take (length c.args.text.now - c.loop-at.at) (drop c.loop-at.at c.args.text.now) in
    let all = length-take (length c.args.text.now - c.loop-at.at) (drop c.loop-at.at c.args.text.now) in
    let size = length-take c.in-Some.taken.length left in
    let rest = length-drop c.loop-at.at c.args.text.now in
    omega (arith, few, within, taken, feeds, all, size, rest)

pub loop-at-preserved : goal.loop-at-preserved
loop-at-preserved c =
    let text = c.args.text.now in
    let at = c.loop-at.at in
    let left = slice-end text at in
    let few = rw (c.in-Some.is, left) at c.in_ok-taken.ensures.few in
    let size = length-drop at text in
    let within = c.loop-at.invariant.within in
    let long = few.1 in
    let begin = ap (λ (n : ℕ). c.loop-at.line + n) (rw (rw (c.in-Some.is) at c.in_ok-taken.ensures.before, left) at
    c.line_feeds.ensures.count) in
    rw (c.line_feeds-line.ensures.count, left) (row_read c.args.path.now c.args.separator text at c.loop-at.line
    c.in-Some.taken.length (c.loop-at.line + c.line_feeds.result) c.loop-at.table c.add.new.self (fields_of c.read_row.new.row)
    c.loop-at.invariant (omega (arith, long, size, within))
    (rw (c.in-Some.is, c.byte.ensures.value, left) at c.in_ok-taken.ensures.row)
    begin
    (λ rows is. c.in_ok-add.ensures.added c.args.path.now c.args.separator rows is))

pub returns : goal.returns
returns c = record {
  rows = end_read c.args.path.now c.args.separator c.args.text.now c.loop-at.at c.loop-at.line c.loop-at.table c.loop-at.invariant
      (omega arith);
}
