-- The first fault of a table in two parts.
use Rattle.std.proofs.Common.{◌≡◌, ◌∙◌, ◌⊎◌, sym, ap, refl, subst, arith, ◌≤◌, ◌<◌, ◌+◌, inl, inr, ℕ, List, [], ◌∷◌, ◌++◌, length}
use Rattle.std.proofs.Common.{length-append, append_assoc, Option, Some, None}
use Rattle.std.specs.Prelude.{MatchOption, Result, Ok, Err}
use Rattle.gtd_core.specs.Limits.{most_rows}
use Rattle.gtd_core.specs.Trees.{Tree}
use Rattle.gtd_core.specs.declared.fault.TextFault.{TextFault}
use Rattle.gtd_records.specs.Closing.{Restriction}
use Rattle.gtd_rows.specs.Columns.{closed_of, number_of, Fields, IsOrdered, vehicles_of}
use Rattle.gtd_records.specs.Cut.{counted_on}
use Rattle.gtd_records.specs.ComputedFile.{AreSoundRows, FirstFault, IsTable}
use Rattle.gtd_records.specs.ComputedRow.{IsDomainColumn, IsRow, with_domain}
use Rattle.gtd_records.specs.File.{header}
use Rattle.gtd_rows.specs.declared.direction.Closed.{Closed}
use Rattle.gtd_records.specs.declared.fault.RecordFault.{RecordFault}
use Rattle.gtd_records.specs.declared.fault.RecordFault.TheVariants as fault
use Rattle.gtd_rows.specs.declared.vehicles.Vehicles.{Vehicles}
use Rattle.gtd_rows.specs.declared.vehicles.Version.{Version}
use Rattle.gtd_records.specs.facts.OneAnswer.{one_version}
use Rattle.gtd_records.proofs.CutFacts.{same_header, same_rows, sound_of, whole}

-- what a row gives, where so many rows stand before the part
abbrev moved : ℕ → Result Restriction RecordFault → Result Restriction RecordFault
moved k (Ok r) = Ok r
moved k (Err why) = Err (counted_on k why)

domain_moved : (k n x : ℕ) (c : Closed) (types : Vehicles) (read : Result (Option Tree) TextFault)
    → moved k (with_domain n x c types read) ≡ with_domain (k + n) x c types read
domain_moved k n x c types (Ok domain) = refl
domain_moved k n x c types (Err why) = refl

-- what the last two columns of a row with this number give
abbrev Typed : Version → List ℕ → Result Restriction RecordFault → ℕ → ℕ → Closed → Option Vehicles → Type 0
Typed v d a k x closed o = MatchOption o (a ≡ Err (fault.Vehicle k)) (λ named.
    (types : Vehicles) × (read : Result (Option Tree) TextFault)
    × IsOrdered named types × IsDomainColumn d read × (a ≡ with_domain k x closed types read))

-- a row gives the same anywhere, but for its number
row_moved : (v : Version) (k n : ℕ) (row : Fields) (a : Result Restriction RecordFault)
    → IsRow v n row a → IsRow v (k + n) row (moved k a)
row_moved v k n [] a is = ap (moved k) is
row_moved v k n (e ∷ []) a is = ap (moved k) is
row_moved v k n (e ∷ c ∷ []) a is = ap (moved k) is
row_moved v k n (e ∷ c ∷ w ∷ []) a is = ap (moved k) is
row_moved v k n (e ∷ c ∷ w ∷ d ∷ []) a is = by_number (number_of e) is
  where
    by_types : (x : ℕ) (closed : Closed) (o : Option Vehicles) → Typed v d a n x closed o
        → Typed v d (moved k a) (k + n) x closed o
    by_types x closed None h = ap (moved k) h
    by_types x closed (Some named) h =
        (h.0, h.1, h.2, h.3, ap (moved k) h.4 ∙ domain_moved k n x closed h.0 h.1)

    by_closed : (x : ℕ) (o : Option Closed)
        → MatchOption o (a ≡ Err (fault.Direction n)) (λ c. Typed v d a n x c (vehicles_of v w))
        → MatchOption o (moved k a ≡ Err (fault.Direction (k + n))) (λ c. Typed v d (moved k a) (k + n) x c (vehicles_of v w))
    by_closed x None h = ap (moved k) h
    by_closed x (Some c) h = by_types x c (vehicles_of v w) h

    by_number : (o : Option ℕ)
        → MatchOption o (a ≡ Err (fault.Element n)) (λ x.
        MatchOption (closed_of c) (a ≡ Err (fault.Direction n)) (λ c. Typed v d a n x c (vehicles_of v w)))
        → MatchOption o (moved k a ≡ Err (fault.Element (k + n))) (λ x.
        MatchOption (closed_of c) (moved k a ≡ Err (fault.Direction (k + n)))
        (λ c. Typed v d (moved k a) (k + n) x c (vehicles_of v w)))
    by_number None h = ap (moved k) h
    by_number (Some x) h = by_closed x (closed_of c) h
row_moved v k n (e ∷ c ∷ w ∷ d ∷ more ∷ rest) a is = ap (moved k) is

fault_of : (v : Version) (rows : List Fields) (why : RecordFault) → IsTable (header v ∷ rows) (Err why) → FirstFault v rows why
fault_of v rows why (inl t) =
    let one = one_version v t.0 (same_header v t.0 rows t.1 t.2) in
    let same = same_rows v t.0 rows t.1 t.2 in
    rw (one, same) (t.3)
fault_of v rows why (inr t) = absurd (t.0 v rows refl)

-- the first fault of the first part is that of the whole
pub first_part : (v : Version) (one two : List Fields) (why : RecordFault) → IsTable (header v ∷ one) (Err why)
    → IsTable (header v ∷ (one ++ two)) (Err why)
first_part v one two why is =
    let f = fault_of v one why is in
    inl (
      v,
      one ++ two,
      refl,
      record {
        before = f.before;
        row = f.row;
        after = f.after ++ two;
        split = ap (λ (l : List Fields). l ++ two) f.split ∙ append_assoc f.before (f.row ∷ f.after) two;
        found = f.found;
        sound = f.sound;
        fault = f.fault;
      },
    )

-- that of the second is, where the first part is accepted
pub second_part : (v : Version) (one two : List Fields) (found : List Restriction) (why : RecordFault)
    → length (one ++ two) ≤ most_rows → IsTable (header v ∷ one) (Ok found) → IsTable (header v ∷ two) (Err why)
    → IsTable (header v ∷ (one ++ two)) (Err (counted_on (length one) why))
second_part v one two found why few p q = inl (v, one ++ two, refl, by_fault f.fault)
  where
    f : FirstFault v two why
    f = fault_of v two why q

    rows : length one + length f.before + 1 ≤ most_rows
    rows =
        let a = length-append one two in
        let b = ap length f.split in
        let c = length-append f.before (f.row ∷ f.after) in
        omega arith

    long : length (one ++ f.before) ≡ length one + length f.before
    long = length-append one f.before

    sound : AreSoundRows v (one ++ f.before) (found ++ f.found)
    sound =
        let r = rows in
        let l = long in
        (omega arith, whole v 1 one f.before found f.found (sound_of v one found p).1 f.sound.1)

    by_fault : ((length f.before ≡ most_rows) × (why ≡ fault.TooManyRows))
        ⊎ ((length f.before < most_rows) × IsRow v (length f.before + 1) f.row (Err why))
        → FirstFault v (one ++ two) (counted_on (length one) why)
    by_fault (inl h) = absurd (let r = rows in let e = h.0 in omega arith)
    by_fault (inr h) = record {
      before = one ++ f.before;
      row = f.row;
      after = f.after;
      split = ap (λ (l : List Fields). one ++ l) f.split ∙ sym (append_assoc one f.before (f.row ∷ f.after));
      found = found ++ f.found;
      sound = sound;
      fault = inr (
        (let r = rows in let l = long in omega arith),
        subst (λ (n : ℕ). IsRow v n f.row (Err (counted_on (length one) why)))
            (let l = long in omega arith)
            (row_moved v (length one) (length f.before + 1) f.row (Err why) h.1),
      );
    }
