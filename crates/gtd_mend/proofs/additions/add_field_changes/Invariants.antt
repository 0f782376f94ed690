use Rattle.std.proofs.Common.{take}
use Rattle.gtd_mend.specs.Lines.{field_lines}
use Rattle.gtd_mend.specs.Standing.{AddsLines}
use Rattle.gtd_mend.proofs.additions.add_field_changes.Given as goal

-- the lines so far were added
abbrev pub invariant-loop-change : goal.invariant-loop-change
invariant-loop-change l =
    AddsLines (λ path. field_lines path l.line l.number (take l.change-index l.changes)) l.fn.listing l.listing
