use Rattle.std.proofs.Common.{◌≡◌, [], take}
use Rattle.csv.specs.Records.{fields_of, partial_of}
use Rattle.gtd_mend.specs.Fields.{mended_from}
use Rattle.gtd_mend.specs.Lines.{lines_from}
use Rattle.gtd_mend.specs.Standing.{AddsLines}
use Rattle.gtd_mend.proofs.row.mend_row.Given as goal

-- the fields so far were mended, and their changes listed
abbrev pub invariant-loop-column : goal.invariant-loop-column
invariant-loop-column l =
    (partial_of l.mended ≡ [])
    × (fields_of l.mended ≡ mended_from l.head 0 (take l.column (fields_of l.row)))
    × AddsLines (λ path. lines_from path l.line l.head 0 (take l.column (fields_of l.row))) l.fn.listing l.listing
