-- How long the lines of a file's schedule are.
use Rattle.std.proofs.Common.{◌≡◌, ◌∙◌, inl, inr, slice_index_or, ◌<◌, ◌≤◌, ◌^◌, ◌+◌, ◌&&◌, nat_le, ap, refl, subst, arith}
use Rattle.std.proofs.Common.{cond, map, ℕ, Bool, List, [], ◌∷◌, length, Option, Some, None}
use Rattle.std.specs.Prelude.{MatchOption, Result, Ok, Err}
use Rattle.std.specs.Char.{is_ascii_digit}
use Rattle.std.specs.List.{All, list_all}
use Rattle.std.proofs.lemmas.Bool.Decides.{nat_tests}
use Rattle.std.proofs.lemmas.Fmt.{length-decimal-le}
use Rattle.std.proofs.lemmas.List.Elements.{All-append, All-cons, All-head, All-tail}
use Rattle.gtd_core.specs.Seconds.{Interval}
use Rattle.gtd_core.specs.Trees.{Tree}
use Rattle.gtd_core.specs.declared.fault.TextFault.{TextFault}
use Rattle.gtd_core.specs.declared.horizon.Horizon.{Horizon}
use Rattle.gtd_records.specs.facts.IndexFacts.{any_default}
use Rattle.gtd_rows.specs.facts.NumberFacts.{number_below}
use Rattle.gtd_records.specs.Closing.{AreElements, Restriction}
use Rattle.gtd_rows.specs.Columns.{closed_of, number_of, Fields, IsOrdered, vehicles_of}
use Rattle.gtd_records.specs.facts.FileForms.{computed_table}
use Rattle.gtd_records.specs.ComputedFile.{AreRecords, IsTable}
use Rattle.gtd_records.specs.ComputedRow.{IsDomainColumn, IsRow, with_domain}
use Rattle.gtd_records.specs.File.{IsFile}
use Rattle.gtd_rows.specs.declared.direction.Closed.{Closed}
use Rattle.gtd_rows.specs.declared.direction.Direction.{Direction}
use Rattle.gtd_rows.specs.declared.direction.Direction.TheVariants.{Positive, Negative}
use Rattle.gtd_records.specs.declared.fault.RecordFault.{RecordFault}
use Rattle.gtd_records.specs.declared.fault.RecordFault.TheVariants as fault
use Rattle.gtd_rows.specs.declared.vehicles.Vehicles.{Vehicles}
use Rattle.gtd_rows.specs.declared.vehicles.Version.{Version}
use Rattle.gtd_report.specs.Run.{IsVehicleType}
use Rattle.gtd_schedule.specs.facts.LineFacts.{length-line}
use Rattle.gtd_report.specs.Putting.{AreLinesOf}
use Rattle.gtd_schedule.specs.Lines.{span_line}
use Rattle.gtd_schedule.specs.Schedule.{AreLines, IsSchedule, header_line}
use Rattle.gtd_schedule.proofs.SpanLines.{lines_only}

-- the number of a column is of ten digits at most
few_digits : (text : List ℕ) (n : ℕ) → number_of text ≡ Some n → n < 10 ^ 10
few_digits text n is = number_below text n 10 is (short (length text) (list_all is_ascii_digit text) _ n is)
  where
    short : (k : ℕ) (b : Bool) (v n : ℕ) → ◌≡◌ {A = Option ℕ} (cond (nat_le 1 k && nat_le k 10 && b) (Some v) None) (Some n)
        → k ≤ 10
    short k b v n e = grind (arith, nat_tests)

-- the restriction of a row has the number of its first column
row_element : (v : Version) (row x : ℕ) (c : Closed) (types : Vehicles) (read : Result (Option Tree) TextFault) (r : Restriction)
    → ◌≡◌ {A = Result Restriction RecordFault} (Ok r) (with_domain row x c types read) → r.element ≡ x
row_element v row x c types (Ok domain) r e = ap (λ (a : Result Restriction RecordFault). element_of a) e
  where
    element_of : Result Restriction RecordFault → ℕ
    element_of (Ok a) = a.element
    element_of (Err why) = 0
row_element v row x c types (Err why) r e = cc

-- an element that is written in ten digits
abbrev IsSmall : ℕ → Type 0
IsSmall element = element < 10 ^ 10

-- the restriction of a row has a small element
row_small : (v : Version) (number : ℕ) (row : Fields) (r : Restriction) → IsRow v number row (Ok r) → IsSmall r.element
row_small v number [] r is = cc
row_small v number (e ∷ []) r is = cc
row_small v number (e ∷ c ∷ []) r is = cc
row_small v number (e ∷ c ∷ w ∷ []) r is = cc
row_small v number (e ∷ c ∷ w ∷ d ∷ []) r is = by_number (number_of e) refl is
  where
    by_types : (x : ℕ) (k : Closed) (o : Option Vehicles)
        → MatchOption o (◌≡◌ {A = Result Restriction RecordFault} (Ok r) (Err (fault.Vehicle number))) (λ named.
        (types : Vehicles) × (read : Result (Option Tree) TextFault)
        × IsOrdered named types × IsDomainColumn d read × (◌≡◌ {A = Result Restriction RecordFault} (Ok r)
        (with_domain number x k types read)))
        → r.element ≡ x
    by_types x k None h = cc
    by_types x k (Some named) h = row_element v number x k h.0 h.1 r h.4

    by_closed : (x : ℕ) (o : Option Closed)
        → MatchOption o (◌≡◌ {A = Result Restriction RecordFault} (Ok r) (Err (fault.Direction number))) (λ k.
        MatchOption (vehicles_of v w) (◌≡◌ {A = Result Restriction RecordFault} (Ok r) (Err (fault.Vehicle number))) (λ named.
        (types : Vehicles) × (read : Result (Option Tree) TextFault)
        × IsOrdered named types × IsDomainColumn d read × (◌≡◌ {A = Result Restriction RecordFault} (Ok r)
        (with_domain number x k types read))))
        → r.element ≡ x
    by_closed x None h = cc
    by_closed x (Some k) h = by_types x k (vehicles_of v w) h

    by_number : (o : Option ℕ) → number_of e ≡ o
        → MatchOption o (◌≡◌ {A = Result Restriction RecordFault} (Ok r) (Err (fault.Element number))) (λ x.
        MatchOption (closed_of c) (◌≡◌ {A = Result Restriction RecordFault} (Ok r) (Err (fault.Direction number))) (λ k.
        MatchOption (vehicles_of v w) (◌≡◌ {A = Result Restriction RecordFault} (Ok r) (Err (fault.Vehicle number))) (λ named.
        (types : Vehicles) × (read : Result (Option Tree) TextFault)
        × IsOrdered named types × IsDomainColumn d read × (◌≡◌ {A = Result Restriction RecordFault} (Ok r)
        (with_domain number x k types read)))))
        → IsSmall r.element
    by_number None is h = cc
    by_number (Some x) is h =
        let same = by_closed x (closed_of c) h in
        let few = few_digits e x is in
        rw same few
row_small v number (e ∷ c ∷ w ∷ d ∷ more ∷ rest) r is = cc

rows_small : (v : Version) (number : ℕ) (rows : List Fields) (found : List Restriction) → AreRecords v number rows found
    → All (λ (r : Restriction). IsSmall r.element) found
rows_small v number [] found are = rw are (λ k d h. absurd (omega arith))
rows_small v number (row ∷ rows) found are =
    rw (are.4) (All-cons (λ (r : Restriction). IsSmall r.element) are.0 are.1 (row_small v number row are.0 are.2)
    (rows_small v (number + 1) rows are.1 are.3))

table_small : (text : List Fields) (found : List Restriction) → IsTable text (Ok found)
    → All (λ (r : Restriction). IsSmall r.element) found
table_small text found (inl t) = rows_small t.0 1 t.1 found t.3.1
table_small text found (inr t) = absurd (cc (t.1))

file_small : (bytes : List ℕ) (found : List Restriction) → IsFile bytes (Ok found)
    → All (λ (r : Restriction). IsSmall r.element) found
file_small bytes found (inl p) = table_small _ found (computed_table _ _ p.1)
file_small bytes found (inr p) = absurd (cc (p.1))

elements_small : (found : List Restriction) (elements : List ℕ) → All (λ (r : Restriction). IsSmall r.element) found
    → AreElements found elements
    → All IsSmall elements
elements_small found elements small are = λ k d h.
    let a = (are.named (slice_index_or elements k d)).0 (k, h, any_default elements k (slice_index_or elements k d) d h) in
    subst IsSmall (ap (λ (r : Restriction). r.element) a.3 ∙ a.4) (small a.0 a.1 a.2)

-- a line of at most 63 bytes
abbrev IsShort : List ℕ → Type 0
IsShort line = length line ≤ 63

module _ (found : List Restriction) (vehicle : ℕ) (type : vehicle < 100) (horizon : Horizon) where
  spans_short : (element : ℕ) (direction : Direction) (spans : List Interval) → IsSmall element
      → All IsShort (map (span_line element direction vehicle) spans)
  spans_short element direction [] small = λ k d h. absurd (omega arith)
  spans_short element direction (x ∷ spans) small =
      let e = length-decimal-le 10 element (omega arith) small (omega arith) in
      let v = length-decimal-le 2 vehicle (omega arith) (omega arith) (omega arith) in
      let line = length-line element direction vehicle 10 2 x e v in
      All-cons IsShort (span_line element direction vehicle x) (map (span_line element direction vehicle) spans) (omega arith)
      (spans_short element direction spans small)

  direction_short : (element : ℕ) (direction : Direction) (lines : List (List ℕ)) → IsSmall element
      → AreLines found vehicle horizon element direction lines → All IsShort lines
  direction_short element direction lines small are =
      rw (lines_only element direction vehicle are.spans lines are.each) (spans_short element direction are.spans small)

  elements_short : (elements : List ℕ) (lines : List (List ℕ)) → All IsSmall elements
      → AreLinesOf (AreLines found vehicle horizon) elements lines
      → All IsShort lines
  elements_short [] lines small are = rw are (λ k d h. absurd (omega arith))
  elements_short (e ∷ elements) lines small are =
      let one = are.2 in
      let here = All-head IsSmall e elements small in
      let p = direction_short e Positive one.positive here one.are_positive in
      let n = direction_short e Negative one.negative here one.are_negative in
      let first : All IsShort are.0 = rw one.both (All-append IsShort one.positive one.negative p n) in
      let rest = elements_short elements are.1 (All-tail IsSmall e elements small) are.3 in
      rw (are.4) (All-append IsShort are.0 are.1 first rest)

-- every line of a file's schedule is short
pub short_lines : (bytes : List ℕ) (found : List Restriction) (vehicle : ℕ) (horizon : Horizon) (lines : List (List ℕ))
    → IsFile bytes (Ok found) → IsVehicleType vehicle → IsSchedule found vehicle horizon lines → All IsShort lines
short_lines bytes found vehicle horizon lines file type is =
    let limit = type.1 in
    let elements = elements_small found is.elements (file_small bytes found file) is.named in
    rw is.whole (All-cons IsShort header_line is.rest (omega arith)
    (elements_short found vehicle (omega arith) horizon is.elements is.rest elements is.each))
