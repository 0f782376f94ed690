-- Three bytes of a mark are dropped, and in each other case the bytes do not begin with one.
use Rattle.std.proofs.Common.{arith}
use Rattle.gtd_lines.proofs.PlaceFacts.{marked, unmarked}
use Rattle.gtd_lines.proofs.cut.mark_length.Goals as goal
use Rattle.gtd_lines.proofs.cut.mark_length.Goals.{else-bytes-ge3-via-then-bytes-ge3+then-bytes+then-bytes-2+else-bytes-3}
use Rattle.gtd_lines.proofs.cut.mark_length.Goals.{else-bytes-ge3-via-then-bytes-ge3+then-bytes+else-bytes-2}
use Rattle.gtd_lines.proofs.cut.mark_length.Goals.{else-bytes-ge3-via-then-bytes-ge3+else-bytes}
use Rattle.gtd_lines.proofs.cut.mark_length.Goals.{else-bytes-ge3-via-else-bytes-ge3}

pub returns-then-bytes-3-clause-rest : goal.returns-then-bytes-3-clause-rest
returns-then-bytes-3-clause-rest c = marked c.args.bytes.now (omega arith) (omega arith) (omega arith) (omega arith)

pub returns-clause-rest : goal.returns-clause-rest
returns-clause-rest c = unmarked c.args.bytes.now (λ more first second third.
    elim c.else-bytes-ge3.branch [
      | else-bytes-ge3-via-then-bytes-ge3+then-bytes+then-bytes-2+else-bytes-3 w ↦ absurd (omega arith)
      | else-bytes-ge3-via-then-bytes-ge3+then-bytes+else-bytes-2 w ↦ absurd (omega arith)
      | else-bytes-ge3-via-then-bytes-ge3+else-bytes w ↦ absurd (omega arith)
      | else-bytes-ge3-via-else-bytes-ge3 w ↦ absurd (omega arith)
    ])
