-- An accepted file may be cut between two of its rows: each part, under the header, is accepted.
use Rattle.std.proofs.Common.{◌≡◌, ◌∙◌, ap, refl, arith, ◌≤◌, ◌+◌, inl, inr, ℕ, List, [], ◌∷◌, ◌++◌, length, length-append}
use Rattle.std.proofs.Common.{Option, Some, None}
use Rattle.std.specs.Prelude.{MatchOption, Result, Ok, Err}
use Rattle.gtd_core.specs.Trees.{Tree}
use Rattle.gtd_core.specs.declared.fault.TextFault.{TextFault}
use Rattle.gtd_records.specs.facts.OneAnswer.{one_version}
use Rattle.gtd_rows.specs.Columns.{closed_of, number_of, Fields, IsOrdered, vehicles_of}
use Rattle.gtd_core.specs.Limits.{most_rows}
use Rattle.gtd_records.specs.ComputedFile.{AreRecords, AreSoundRows, IsTable}
use Rattle.gtd_records.specs.ComputedRow.{IsDomainColumn, IsRow, with_domain}
use Rattle.gtd_records.specs.File.{header}
use Rattle.gtd_records.specs.Closing.{Restriction}
use Rattle.gtd_rows.specs.declared.direction.Closed.{Closed}
use Rattle.gtd_records.specs.declared.fault.RecordFault.{RecordFault}
use Rattle.gtd_records.specs.declared.fault.RecordFault.TheVariants as fault
use Rattle.gtd_rows.specs.declared.vehicles.Vehicles.{Vehicles}
use Rattle.gtd_rows.specs.declared.vehicles.Version.{Version}

-- what a row stands for does not depend on its number
read_anywhere : (n m x : ℕ) (c : Closed) (types : Vehicles) (read : Result (Option Tree) TextFault) (r : Restriction)
    → ◌≡◌ {A = Result Restriction RecordFault} (Ok r) (with_domain n x c types read)
    → ◌≡◌ {A = Result Restriction RecordFault} (Ok r) (with_domain m x c types read)
read_anywhere n m x c types (Ok domain) r e = e
read_anywhere n m x c types (Err why) r e = cc

-- what the last two columns of a row with this number give
abbrev Typed : Version → List ℕ → Restriction → ℕ → ℕ → Closed → Option Vehicles → Type 0
Typed v d r k x closed o = MatchOption o (◌≡◌ {A = Result Restriction RecordFault} (Ok r) (Err (fault.Vehicle k))) (λ named.
    (types : Vehicles) × (read : Result (Option Tree) TextFault)
    × IsOrdered named types × IsDomainColumn d read × (◌≡◌ {A = Result Restriction RecordFault} (Ok r)
    (with_domain k x closed types read)))

pub row_anywhere : (v : Version) (n m : ℕ) (row : Fields) (r : Restriction) → IsRow v n row (Ok r) → IsRow v m row (Ok r)
row_anywhere v n m [] r is = cc
row_anywhere v n m (e ∷ []) r is = cc
row_anywhere v n m (e ∷ c ∷ []) r is = cc
row_anywhere v n m (e ∷ c ∷ w ∷ []) r is = cc
row_anywhere v n m (e ∷ c ∷ w ∷ d ∷ []) r is = by_number (number_of e) is
  where
    by_types : (x : ℕ) (closed : Closed) (o : Option Vehicles) → Typed v d r n x closed o → Typed v d r m x closed o
    by_types x closed None h = cc
    by_types x closed (Some named) h = (h.0, h.1, h.2, h.3, read_anywhere n m x closed h.0 h.1 r h.4)

    by_closed : (x : ℕ) (o : Option Closed)
        → MatchOption o (◌≡◌ {A = Result Restriction RecordFault} (Ok r) (Err (fault.Direction n)))
        (λ k. Typed v d r n x k (vehicles_of v w))
        → MatchOption o (◌≡◌ {A = Result Restriction RecordFault} (Ok r) (Err (fault.Direction m)))
        (λ k. Typed v d r m x k (vehicles_of v w))
    by_closed x None h = cc
    by_closed x (Some k) h = by_types x k (vehicles_of v w) h

    by_number : (o : Option ℕ)
        → MatchOption o (◌≡◌ {A = Result Restriction RecordFault} (Ok r) (Err (fault.Element n))) (λ x.
        MatchOption (closed_of c) (◌≡◌ {A = Result Restriction RecordFault} (Ok r) (Err (fault.Direction n)))
        (λ k. Typed v d r n x k (vehicles_of v w)))
        → MatchOption o (◌≡◌ {A = Result Restriction RecordFault} (Ok r) (Err (fault.Element m))) (λ x.
        MatchOption (closed_of c) (◌≡◌ {A = Result Restriction RecordFault} (Ok r) (Err (fault.Direction m)))
        (λ k. Typed v d r m x k (vehicles_of v w)))
    by_number None h = cc
    by_number (Some x) h = by_closed x (closed_of c) h
row_anywhere v n m (e ∷ c ∷ w ∷ d ∷ more ∷ rest) r is = cc

-- nor do rows
pub rows_anywhere : (v : Version) (n m : ℕ) (rows : List Fields) (found : List Restriction) → AreRecords v n rows found
    → AreRecords v m rows found
rows_anywhere v n m [] found are = are
rows_anywhere v n m (row ∷ rows) found are =
    (are.0, are.1, row_anywhere v n m row are.0 are.2, rows_anywhere v (n + 1) (m + 1) rows are.1 are.3, are.4)

-- the restrictions of rows in two parts
record Parts (v : Version) (n : ℕ) (one two : List Fields) (found : List Restriction) : Type 0 where
  first : List Restriction
  second : List Restriction
  are_first : AreRecords v n one first
  are_second : AreRecords v 1 two second
  both : found ≡ first ++ second

parts : (v : Version) (n : ℕ) (one two : List Fields) (found : List Restriction) → AreRecords v n (one ++ two) found
    → Parts v n one two found
parts v n [] two found are = record {
  first = [];
  second = found;
  are_first = refl;
  are_second =
      rows_anywhere v n 1 two found are;
  both = refl;
}
parts v n (row ∷ one) two found are =
    let p = parts v (n + 1) one two are.1 are.3 in
    record {
      first = are.0 ∷ p.first;
      second = p.second;
      are_first = (are.0, p.first, are.2, p.are_first, refl);
      are_second = p.are_second;
      both = are.4 ∙ ap (λ (l : List Restriction). are.0 ∷ l) p.both;
    }

-- the same the other way
pub whole : (v : Version) (n : ℕ) (one two : List Fields) (first second : List Restriction) → AreRecords v n one first
    → AreRecords v 1 two second
    → AreRecords v n (one ++ two) (first ++ second)
whole v n [] two first second p q = rw p (rows_anywhere v 1 n two second q)
whole v n (row ∷ one) two first second p q =
    (p.0, p.1 ++ second, p.2, whole v (n + 1) one two p.1 second p.3 q, ap (λ (l : List Restriction). l ++ second) p.4)

-- the rows under a header
pub same_rows : (v w : Version) (a b : List Fields) → header v ∷ a ≡ header w ∷ b → a ≡ b
same_rows v w a b e = ap rest e
  where
    rest : List Fields → List Fields
    rest [] = []
    rest (x ∷ xs) = xs

pub same_header : (v w : Version) (a b : List Fields) → header v ∷ a ≡ header w ∷ b → header v ≡ header w
same_header v w a b e = ap top e
  where
    top : List Fields → Fields
    top [] = []
    top (x ∷ xs) = x

pub sound_of : (v : Version) (rows : List Fields) (found : List Restriction) → IsTable (header v ∷ rows) (Ok found)
    → AreSoundRows v rows found
sound_of v rows found (inl t) =
    let one = one_version v t.0 (same_header v t.0 rows t.1 t.2) in
    let same = same_rows v t.0 rows t.1 t.2 in
    rw (one, same) (t.3)
sound_of v rows found (inr t) = absurd (cc (t.1))

pub cut : (v : Version) (one two : List Fields) (found : List Restriction) → IsTable (header v ∷ (one ++ two)) (Ok found)
    → (first : List Restriction) × (second : List Restriction)
    × IsTable (header v ∷ one) (Ok first) × IsTable (header v ∷ two) (Ok second) × (found ≡ first ++ second)
cut v one two found is =
    let s = sound_of v (one ++ two) found is in
    let p = parts v 1 one two found s.1 in
    let l = length-append one two in
    let few = s.0 in (
      p.first,
      p.second,
      inl (v, one, refl, (omega arith, p.are_first)),
      inl (v, two, refl, (omega arith, p.are_second)),
      p.both,
    )

pub joined : (v : Version) (one two : List Fields) (first second : List Restriction) → length (one ++ two) ≤ most_rows
    → IsTable (header v ∷ one) (Ok first) → IsTable (header v ∷ two) (Ok second)
    → IsTable (header v ∷ (one ++ two)) (Ok (first ++ second))
joined v one two first second few p q =
    inl (v, one ++ two, refl, (few, whole v 1 one two first second (sound_of v one first p).1 (sound_of v two second q).1))
