-- The line of a fault is the one on which its row begins, by the place of the row in the bytes.
use Rattle.std.proofs.Common.{refl}
use Rattle.gtd_lines.specs.facts.OneLine.{line_of_place}
use Rattle.gtd_faults.proofs.lines.FaultLines.add_of_row.Goals as goal

pub returns : goal.returns
returns c = λ bytes is of.
    let row = c.args.row.now in
    c.add.ensures bytes (rw of (line_of_place bytes row.number row.place is.place))
    (c.row_snippet.ensures.snippet bytes is (rw of refl))
