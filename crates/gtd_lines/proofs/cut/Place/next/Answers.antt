-- Behind a record and the line ends after it the next record begins, and each step moves forward.
use Rattle.std.proofs.Common.{arith, drop}
use Rattle.csv.proofs.WriteFacts.{slice-end}
use Rattle.gtd_lines.proofs.PlaceFacts.{next_place}
use Rattle.gtd_lines.proofs.cut.Place.next.Goals as goal

pub returns-clause-place : goal.returns-clause-place
returns-clause-place c = λ number is.
    let bytes = c.args.bytes.now in
    let at = c.args.self.at in
    let taken = c.record_length-taken.result in
    let left = slice-end bytes at in
    let ends = rw (left, slice-end (drop at bytes) taken) at c.line_ends.ensures.rest in
    let line = rw (c.line_feeds.ensures.count, left) at c.saturating_add.ensures in
    next_place bytes number taken c.line_ends.result c.saturating_add.result c.args.self is (omega arith) (omega arith)
    (rw left at c.record_length-taken.ensures.rest) ends line
