use Rattle.std.proofs.Common.{◌≡◌, []}
use Rattle.csv.specs.Records.{fields_of, partial_of}
use Rattle.gtd_mend.specs.Cutting.{state_of}
use Rattle.gtd_mend.specs.Reading.{by_byte}
use Rattle.gtd_mend.proofs.CutFacts.{Follows}
use Rattle.gtd_mend.proofs.cut.read_fields.Given as goal

-- none of the bytes so far ended the row
abbrev pub invariant-loop-at : goal.invariant-loop-at
invariant-loop-at l =
    (partial_of l.row ≡ [])
    × Follows (by_byte l.separator) l.text l.at (state_of l.within) (fields_of l.row) l.field.items
