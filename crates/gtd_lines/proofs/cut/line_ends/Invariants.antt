use Rattle.std.proofs.Common.{◌≡◌, drop}
use Rattle.gtd_lines.specs.Lines.{from_record}
use Rattle.gtd_lines.proofs.cut.line_ends.Given as goal

-- the bytes so far are line ends
abbrev pub invariant-loop-at : goal.invariant-loop-at
invariant-loop-at l = from_record l.bytes ≡ from_record (drop l.at l.bytes)
