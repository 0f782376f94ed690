-- The list of a file that is too large has one line, whatever its bytes are, since none of them is known.
use Rattle.std.proofs.Common.{[], refl}
use Rattle.gtd_faults.proofs.lines.FaultLines.too_large.Goals as goal

pub returns : goal.returns
returns c =
    let more = c.in_ok-add.ensures [] refl refl in
    let new = c.new-list.ensures in
    rw (more.faults, new.faults, new.path) at (more.lines (rw (new.path, new.faults) (new.lines [])))
