use Rattle.std.proofs.Common.{◌≡◌, ◌+◌, drop}
use Rattle.std.specs.List.{prefix_len}
use Rattle.gtd_records.specs.Cut.{is_line_end}
use Rattle.gtd_mend.proofs.cut.line_ends.Given as goal

-- the bytes so far are line ends
abbrev pub invariant-loop-at : goal.invariant-loop-at
invariant-loop-at l = prefix_len is_line_end l.bytes ≡ l.at + prefix_len is_line_end (drop l.at l.bytes)
