-- Which rows are listed: just those that stand for no restriction.
use Rattle.std.proofs.Common.{◌≡◌, ◌∙◌, sym, ap, refl, subst, arith, ◌<◌, ◌+◌, inl, inr, ◌↔◌, map, ℕ, zero, suc, List, []}
use Rattle.std.proofs.Common.{◌∷◌, length}
use Rattle.std.specs.Prelude.{Result, Ok, Err, slice_index_or}
use Rattle.std.specs.List.{Contains}
use Rattle.gtd_text.specs.facts.OneMeaning.{one_meaning}
use Rattle.gtd_text.specs.facts.ReadingLaws.{one_fault}
use Rattle.gtd_records.specs.facts.OneAnswer.{one_row}
use Rattle.gtd_rows.specs.facts.Rising.{In, from_in, to_in}
use Rattle.gtd_records.specs.facts.RowFaults.{number_is}
use Rattle.gtd_rows.specs.Columns.{Fields}
use Rattle.gtd_records.specs.Faults.{AreRowFaults, IsFaultyRow, row_number, with_fault}
use Rattle.gtd_records.specs.Closing.{Restriction}
use Rattle.gtd_records.specs.ComputedRow.{IsRow}
use Rattle.gtd_records.specs.declared.fault.RecordFault.{RecordFault}
use Rattle.gtd_rows.specs.declared.vehicles.Version.{Version}

-- the row with this number stands for no restriction, where the first has number k
record Faulty (v : Version) (k : ℕ) (rows : List Fields) (n : ℕ) : Type 0 where
  at : ℕ
  is : n ≡ k + at
  within : at < length rows
  row : Fields
  stands : slice_index_or rows at row ≡ row
  never : (r : Restriction) → IsRow v n row (Ok r) → ⊥

later : (v : Version) (k : ℕ) (row : Fields) (rows : List Fields) (n : ℕ) → Faulty v (k + 1) rows n → Faulty v k (row ∷ rows) n
later v k row rows n f = record {
  at = suc f.at;
  is = (let e = f.is in omega arith);
  within = (let l = f.within in omega arith);
  row = f.row;
  stands = f.stands;
  never = f.never;
}

not_both : (v : Version) (k : ℕ) (row : Fields) (why : RecordFault) (r : Restriction) → IsRow v k row (Err why)
    → IsRow v k row (Ok r) → ⊥
not_both v k row why r p q = apart (one_row one_meaning one_fault v k row (Err why) (Ok r) p q)
  where
    apart : ◌≡◌ {A = Result Restriction RecordFault} (Err why) (Ok r) → ⊥
    apart e = cc

first_listed : (v : Version) (k : ℕ) (row : Fields) (rows : List Fields) (n : ℕ) (a : Result Restriction RecordFault)
    (rest : List RecordFault)
    → IsRow v k row a → (In n (map row_number rest) → Faulty v (k + 1) rows n) → In n (map row_number (with_fault a rest))
    → Faulty v k (row ∷ rows) n
first_listed v k row rows n (Ok r) rest is more i = later v k row rows n (more i)
first_listed v k row rows n (Err why) rest is more (inr i) = later v k row rows n (more i)
first_listed v k row rows n (Err why) rest is more (inl e) =
    let same : k ≡ n = sym (number_is v k row why is) ∙ e in
    record {
      at = 0;
      is = omega arith;
      within = omega arith;
      row = row;
      stands = refl;
      never = λ r ok. not_both v k row why r is (subst (λ (m : ℕ). IsRow v m row (Ok r)) (sym same) ok);
    }

listed_faulty : (v : Version) (k : ℕ) (rows : List Fields) (faults : List RecordFault) → AreRowFaults v k rows faults → (n : ℕ)
    → In n (map row_number faults) → Faulty v k rows n
listed_faulty v k [] faults are n i = let no : In n (map row_number []) =
    subst (λ (l : List RecordFault). In n (map row_number l)) are i in absurd no
listed_faulty v k (row ∷ rows) faults are n i =
    first_listed v k row rows n are.0 are.1 are.2 (λ h. listed_faulty v (k + 1) rows are.1 are.3 n h)
    (subst (λ (l : List RecordFault). In n (map row_number l)) are.4 i)

-- the first row, or one after it
at_first : (v : Version) (k : ℕ) (row : Fields) (rows : List Fields) (n : ℕ) (a : Result Restriction RecordFault)
    (rest : List RecordFault)
    → IsRow v k row a → (at : ℕ) → n ≡ k + at → at < length (row ∷ rows) → (fields : Fields)
    → slice_index_or (row ∷ rows) at fields ≡ fields
    → ((r : Restriction) → IsRow v n fields (Ok r) → ⊥) → (Faulty v (k + 1) rows n → In n (map row_number rest))
    → In n (map row_number (with_fault a rest))
at_first v k row rows n (Ok r) rest is zero e lt fields stands never more =
    let same : k ≡ n = omega arith in
    absurd (never r (subst (λ (f : Fields). IsRow v n f (Ok r)) stands (subst (λ (m : ℕ). IsRow v m row (Ok r)) same is)))
at_first v k row rows n (Err why) rest is zero e lt fields stands never more = let same : k ≡ n = omega arith in
    inl (number_is v k row why is ∙ same)
at_first v k row rows n (Ok r) rest is (suc at) e lt fields stands never more =
    more (record { at = at; is = omega arith; within = omega arith; row = fields; stands = stands; never = never })
at_first v k row rows n (Err why) rest is (suc at) e lt fields stands never more =
    inr (more (record { at = at; is = omega arith; within = omega arith; row = fields; stands = stands; never = never }))

faulty_listed : (v : Version) (k : ℕ) (rows : List Fields) (faults : List RecordFault) → AreRowFaults v k rows faults → (n : ℕ)
    → Faulty v k rows n → In n (map row_number faults)
faulty_listed v k [] faults are n f = absurd (let l = f.within in omega arith)
faulty_listed v k (row ∷ rows) faults are n f =
    subst (λ (l : List RecordFault). In n (map row_number l)) (sym are.4)
    (at_first v k row rows n are.0 are.1 are.2 f.at f.is f.within f.row f.stands f.never
    (λ g. faulty_listed v (k + 1) rows are.1 are.3 n g))

-- a row is listed exactly if it stands for no restriction
pub listed_rows : (v : Version) (rows : List Fields) (faults : List RecordFault) → AreRowFaults v 1 rows faults
    → (n : ℕ) → Contains (map row_number faults) n ↔ IsFaultyRow v rows n
listed_rows v rows faults are n = (
  (λ c.
      let f = listed_faulty v 1 rows faults are n (to_in n (map row_number faults) c.0 c.1 c.2) in
      let e = f.is in
      record { before = f.at; is = omega arith; within = f.within; row = f.row; stands = f.stands; never = f.never }),
  (λ f.
      let e = f.is in
      from_in n (map row_number faults) (faulty_listed v 1 rows faults are n
      (record { at = f.before; is = omega arith; within = f.within; row = f.row; stands = f.stands; never = f.never }))),
)

-- rows have one list of faults
pub one_list_of : (v : Version) (k : ℕ) (rows : List Fields) (a b : List RecordFault) → AreRowFaults v k rows a
    → AreRowFaults v k rows b → a ≡ b
one_list_of v k [] a b p q = p ∙ sym q
one_list_of v k (row ∷ rows) a b p q =
    p.4
    ∙ ap (λ (x : Result Restriction RecordFault). with_fault x p.1) (one_row one_meaning one_fault v k row p.0 q.0 p.2 q.2)
    ∙ ap (λ (l : List RecordFault). with_fault q.0 l) (one_list_of v (k + 1) rows p.1 q.1 p.3 q.3)
    ∙ sym q.4
