use Rattle.std.proofs.Common.{◌≤◌}
use Rattle.gtd_lines.specs.Cut.{IsPlace}
use Rattle.gtd_faults.proofs.listing.walked.Given as goal

-- the place of the row that was walked to
abbrev pub invariant-loop : goal.invariant-loop
invariant-loop l =
    l.fn.from ≤ l.fn.to → IsPlace l.fn.bytes l.fn.from l.fn.place → IsPlace l.fn.bytes l.counter l.here
