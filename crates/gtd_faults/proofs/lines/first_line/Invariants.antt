use Rattle.std.proofs.Common.{◌≡◌, ◌+◌, drop}
use Rattle.std.specs.List.{prefix_len}
use Rattle.gtd_lines.specs.Lines.{is_within}
use Rattle.gtd_faults.proofs.lines.first_line.Given as goal

-- the bytes so far are within the line
abbrev pub invariant-loop-end : goal.invariant-loop-end
invariant-loop-end l = prefix_len is_within l.bytes ≡ l.end + prefix_len is_within (drop l.end l.bytes)
