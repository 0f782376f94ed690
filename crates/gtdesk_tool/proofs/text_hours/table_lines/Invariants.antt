-- The lines so far and those of the faults left are together the lines of all.
use Rattle.std.proofs.Common.{◌≡◌, ◌++◌, length}
use Rattle.std.specs.Prelude.{string_bytes}
use Rattle.gtdesk_tool.specs.TextHours.{table_lines}
use Rattle.gtdesk_tool.proofs.text_hours.table_lines.Given as goal

abbrev pub invariant-loop-fault : goal.invariant-loop-fault
invariant-loop-fault l = string_bytes l.lines ++ table_lines l.path l.rest ≡ table_lines l.path l.faults

abbrev pub decreases-loop-fault : goal.decreases-loop-fault
decreases-loop-fault l = length l.rest
