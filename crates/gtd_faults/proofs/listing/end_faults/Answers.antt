-- A row too many is told on its own line: that of row 65,537, where the walk over the rows stopped.
use Rattle.gtd_core.specs.Limits.{most_rows}
use Rattle.gtd_lines.specs.facts.OneLine.{line_of_place}
use Rattle.gtd_faults.proofs.listing.end_faults.Goals as goal

pub returns-in_ok-add_too_many-in-TooMany : goal.returns-in_ok-add_too_many-in-TooMany
returns-in_ok-add_too_many-in-TooMany c =
    rw (c.in-TooMany.is) (λ fits place. c.in_ok-add_too_many-in-TooMany.ensures c.args.bytes.now
    (line_of_place c.args.bytes.now 65_537 c.next.result (c.next.ensures.place most_rows (c.walked-last.ensures fits place))))
