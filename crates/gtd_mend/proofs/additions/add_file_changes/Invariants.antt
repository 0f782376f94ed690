use Rattle.std.proofs.Common.{take}
use Rattle.gtd_mend.specs.Lines.{file_lines}
use Rattle.gtd_mend.specs.Standing.{AddsLines}
use Rattle.gtd_mend.proofs.additions.add_file_changes.Given as goal

-- the lines so far were added
abbrev pub invariant-loop-change : goal.invariant-loop-change
invariant-loop-change l = AddsLines (λ path. file_lines path (take l.change-index l.changes)) l.fn.listing l.listing
