use Rattle.gtd_lines.specs.Cut.{state_of}
use Rattle.gtd_lines.proofs.PlaceFacts.{Follows}
use Rattle.gtd_lines.proofs.cut.record_length.Given as goal

-- none of the bytes so far ended the record
abbrev pub invariant-loop-at : goal.invariant-loop-at
invariant-loop-at l = Follows l.bytes l.at (state_of l.within)
