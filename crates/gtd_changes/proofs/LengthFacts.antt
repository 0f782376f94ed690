-- How long the lines of changes are.
use Rattle.std.proofs.Common.{◌≡◌, ◌<◌, ◌≤◌, ◌^◌, ap, arith, ℕ, Bool, false, List, ◌++◌, length, length-append, append_assoc}
use Rattle.std.proofs.Common.{subst, sym}
use Rattle.std.specs.Prelude.{codes}
use Rattle.std.proofs.lemmas.Fmt.{length-decimal-le}
use Rattle.gtd_records.specs.Closing.{Restriction}
use Rattle.gtd_rows.specs.declared.direction.Direction.{Direction}
use Rattle.gtd_report.specs.Run.{IsVehicleType}
use Rattle.gtd_schedule.specs.Lines.{line_head, span_text}
use Rattle.gtd_schedule.specs.facts.LineFacts.{length-head}
use Rattle.gtd_changes.specs.Changes.{change_line, change_word, span_of}
use Rattle.gtd_changes.specs.declared.change.Change.{Change}
use Rattle.gtd_changes.specs.declared.change.Change.TheVariants.{Opened, Closed}
use Rattle.gtd_changes.specs.facts.RowsFacts.{line_with}

-- what stands behind the head of a line
rest : Change → List ℕ
rest change = change_word change ++ codes "," ++ span_text (span_of change)

length-rest : (change : Change) → length (rest change) ≤ 47
unfolding rest
length-rest (Opened span) = omega arith
length-rest (Closed span) = omega arith

module _ (element : ℕ) (direction : Direction) (vehicle : ℕ) where
  parts : (change : Change) → line_head element direction vehicle ++ rest change ≡ change_line element direction vehicle change
  unfolding rest
  parts change = simp append_assoc

  length-change : (change : Change) → element < 2 ^ 64 → IsVehicleType vehicle
      → length (change_line element direction vehicle change) ≤ 80
  length-change change small type =
      let d = length-decimal-le 20 element (omega arith) (omega arith) small in
      let v = length-decimal-le 2 vehicle (omega arith) (omega arith) (let t = type.1 in omega arith) in
      let head = length-head element direction vehicle 20 2 d v in
      let all = length-append (line_head element direction vehicle) (rest change) in
      let end = length-rest change in
      rw (← parts change) (omega arith)

-- a line without rows
pub short_line : (old new : List Restriction) (vehicle element : ℕ) (direction : Direction) (line : List ℕ) (with_rows : Bool)
    (change : Change) → with_rows ≡ false → line ≡ line_with old new vehicle element direction with_rows change
    → element < 2 ^ 64 → IsVehicleType vehicle → length line ≤ 80
short_line old new vehicle element direction line with_rows change without is small type =
    let same : line ≡ change_line element direction vehicle change =
    (subst (λ (b : Bool). line ≡ line_with old new vehicle element direction b change) without is) in
    subst (λ (l : List ℕ). length l ≤ 80) (sym same) (length-change element direction vehicle change small type)
