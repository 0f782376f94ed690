-- The bytes of a file have one answer.
use Rattle.std.proofs.Common.{◌≡◌, ◌∙◌, sym, ap, refl, subst, ◌<◌, ◌+◌, ◌⊎◌, inl, inr, ℕ, List, [], ◌∷◌, ◌++◌, length, arith}
use Rattle.std.proofs.Common.{length-append, add-zero}
use Rattle.std.specs.Prelude.{Option, Some, None, MatchOption, Result, Ok, Err}
use Rattle.csv.specs.Reading.{default_config, records, strip_bom}
use Rattle.gtd_text.specs.facts.OneMeaning.{one_meaning}
use Rattle.gtd_text.specs.facts.ReadingLaws.{one_fault}
use Rattle.gtd_text.specs.Reading.{StandsFor, IsFault}
use Rattle.gtd_records.specs.facts.FileForms.{computed_file}
use Rattle.gtd_rows.specs.facts.Rising.{one_list}
use Rattle.gtd_records.specs.File as file
use Rattle.gtd_rows.specs.Columns.{IsSortedSet}
use Rattle.gtd_core.specs.Limits.{most_rows}
use Rattle.gtd_records.specs.ComputedFile.{AreRecords, AreRows, FirstFault, IsFile, AreSoundRows, IsTable}
use Rattle.gtd_records.specs.File.{header}
use Rattle.gtd_records.specs.ComputedRow.{IsFullRow, IsRow}
use Rattle.gtd_records.specs.facts.RowNames.{AllBut, Every, Fields, IsDomainColumn, IsOrdered, Only}
use Rattle.gtd_records.specs.facts.RowNames.{RecordFault, Restriction, TextFault}
use Rattle.gtd_records.specs.facts.RowNames.{Tree, Vehicles, Version, closed_of, number_of, vehicles_of, with_domain}
use Rattle.gtd_records.specs.declared.fault.RecordFault.TheVariants as fault
use Rattle.gtd_rows.specs.declared.vehicles.Version.TheVariants as version

one_ascending : (codes xs ys : List ℕ) → IsSortedSet codes xs → IsSortedSet codes ys → xs ≡ ys
one_ascending codes xs ys p q =
    one_list xs ys p.order q.order (λ n h. (q.same n).1 ((p.same n).0 h)) (λ n h. (p.same n).1 ((q.same n).0 h))

one_ordered : (named a b : Vehicles) → IsOrdered named a → IsOrdered named b → a ≡ b
one_ordered Every a b p q = p ∙ sym q
one_ordered (Only codes) a b p q = p.2 ∙ ap (λ (types : List ℕ). Only types) (one_ascending codes p.0 q.0 p.1 q.1) ∙ sym q.2
one_ordered (AllBut codes) a b p q = p.2 ∙ ap (λ (types : List ℕ). AllBut types) (one_ascending codes p.0 q.0 p.1 q.1) ∙ sym q.2

agree : {X A : Type 0} (o : Option X) (e : A) (Q : X → A → Type 0) → ((x : X) (a b : A) → Q x a → Q x b → a ≡ b)
    → (a b : A) → MatchOption o (a ≡ e) (λ x. Q x a) → MatchOption o (b ≡ e) (λ x. Q x b) → a ≡ b
agree None e Q one a b p q = p ∙ sym q
agree (Some x) e Q one a b p q = one x a b p q

ok_is : (a b : Restriction) → ◌≡◌ {A = Result Restriction RecordFault} (Ok a) (Ok b) → a ≡ b
ok_is a b e = cc

err_is : (a b : RecordFault) → ◌≡◌ {A = Result Restriction RecordFault} (Err a) (Err b) → a ≡ b
err_is a b e = cc

ok_not_err : (r : Restriction) (why : RecordFault) → ◌≡◌ {A = Result Restriction RecordFault} (Ok r) (Err why) → ⊥
ok_not_err r why e = cc

head_is : (x y : Fields) (xs ys : List Fields) → x ∷ xs ≡ y ∷ ys → x ≡ y
head_is x y xs ys e = cc

tail_is : (x y : Fields) (xs ys : List Fields) → x ∷ xs ≡ y ∷ ys → xs ≡ ys
tail_is x y xs ys e = cc

pub one_version : (v w : Version) → header v ≡ header w → v ≡ w
one_version version.One version.One e = refl
one_version version.One version.Two e = cc
one_version version.Two version.One e = cc
one_version version.Two version.Two e = refl

module _ (one_tree : (text : List ℕ) (e f : Tree) → StandsFor text e → StandsFor text f → e ≡ f)
    (one_text_fault : (text : List ℕ) (f g : TextFault) → IsFault text f → IsFault text g → f ≡ g) where
  one_column : (text : List ℕ) (a b : Result (Option Tree) TextFault) → IsDomainColumn text a → IsDomainColumn text b → a ≡ b
  one_column [] (Ok a) (Ok b) p q = ap Ok (p ∙ sym q)
  one_column [] (Ok a) (Err w) p q = absurd q
  one_column [] (Err v) b p q = absurd p
  one_column (c ∷ text) (Ok None) b p q = absurd p
  one_column (c ∷ text) (Ok (Some e)) (Ok None) p q = absurd q
  one_column (c ∷ text) (Ok (Some e)) (Ok (Some f)) p q = ap (λ (t : Tree). Ok (Some t)) (one_tree (c ∷ text) e f p.0 q.0)
  one_column (c ∷ text) (Ok (Some e)) (Err w) p q = absurd (p.1 w q)
  one_column (c ∷ text) (Err v) (Ok None) p q = absurd q
  one_column (c ∷ text) (Err v) (Ok (Some f)) p q = absurd (q.1 v p)
  one_column (c ∷ text) (Err v) (Err w) p q = ap Err (one_text_fault (c ∷ text) v w p q)

  one_full_row : (v : Version) (row : ℕ) (element closed vehicles domain : List ℕ) (a b : Result Restriction RecordFault)
      → IsFullRow v row element closed vehicles domain a → IsFullRow v row element closed vehicles domain b → a ≡ b
  one_full_row v row element closed vehicles domain a b p q =
      agree (number_of element) _ (λ x r.
      MatchOption (closed_of closed) (r ≡ Err (fault.Direction row)) (λ c.
      MatchOption (vehicles_of v vehicles) (r ≡ Err (fault.Vehicle row)) (λ named.
      (types : Vehicles) × (read : Result (Option Tree) TextFault)
      × IsOrdered named types × IsDomainColumn domain read × (r ≡ with_domain row x c types read))))
      (λ x. agree (closed_of closed) _ (λ c r.
      MatchOption (vehicles_of v vehicles) (r ≡ Err (fault.Vehicle row)) (λ named.
      (types : Vehicles) × (read : Result (Option Tree) TextFault)
      × IsOrdered named types × IsDomainColumn domain read × (r ≡ with_domain row x c types read)))
      (λ c. agree (vehicles_of v vehicles) _ (λ named r.
      (types : Vehicles) × (read : Result (Option Tree) TextFault)
      × IsOrdered named types × IsDomainColumn domain read × (r ≡ with_domain row x c types read))
      (λ named r s f g.
      f.4
      ∙ ap (λ (t : Vehicles). with_domain row x c t f.1) (one_ordered named f.0 g.0 f.2 g.2)
      ∙ ap (λ (t : Result (Option Tree) TextFault). with_domain row x c g.0 t) (one_column domain f.1 g.1 f.3 g.3)
      ∙ sym g.4)))
      a b p q

  pub one_row : (v : Version) (row : ℕ) (fields : Fields) (a b : Result Restriction RecordFault) → IsRow v row fields a
      → IsRow v row fields b → a ≡ b
  one_row v row [] a b p q = p ∙ sym q
  one_row v row (c ∷ []) a b p q = p ∙ sym q
  one_row v row (c ∷ d ∷ []) a b p q = p ∙ sym q
  one_row v row (c ∷ d ∷ e ∷ []) a b p q = p ∙ sym q
  one_row v row (c ∷ d ∷ e ∷ f ∷ []) a b p q = one_full_row v row c d e f a b p q
  one_row v row (c ∷ d ∷ e ∷ f ∷ g ∷ more) a b p q = p ∙ sym q

  one_found : (v : Version) (k : ℕ) (rows : List Fields) (f g : List Restriction) → AreRecords v k rows f → AreRecords v k rows g
      → f ≡ g
  one_found v k [] f g p q = p ∙ sym q
  one_found v k (row ∷ rows) f g p q =
      p.4
      ∙ ap (λ (r : Restriction). r ∷ p.1) (ok_is p.0 q.0 (one_row v k row (Ok p.0) (Ok q.0) p.2 q.2))
      ∙ ap (λ (rs : List Restriction). q.0 ∷ rs) (one_found v (k + 1) rows p.1 q.1 p.3 q.3)
      ∙ sym q.4

  -- two rows that end a sound front are one, or the earlier stands for a restriction
  abbrev Apart : Version → ℕ → List Fields → Fields → List Fields → Fields → Type 0
  Apart v k xs x ys y =
      ((xs ≡ ys) × (x ≡ y))
      ⊎ (((length xs < length ys) × ((r : Restriction) × IsRow v (k + length xs) x (Ok r)))
      ⊎ ((length ys < length xs) × ((r : Restriction) × IsRow v (k + length ys) y (Ok r))))

  apart : (v : Version) (k : ℕ) (xs : List Fields) (x : Fields) (more ys : List Fields) (y : Fields) (rest : List Fields)
      (f g : List Restriction)
      → xs ++ x ∷ more ≡ ys ++ y ∷ rest → AreRecords v k xs f → AreRecords v k ys g → Apart v k xs x ys y
  apart v k [] x more [] y rest f g e p q = inl (refl, head_is x y more rest e)
  apart v k [] x more (z ∷ ys) y rest f g e p q =
      let same = head_is x z more (ys ++ y ∷ rest) e in
      inr (inl (omega arith, (q.0, rw (add-zero k, same) q.2)))
  apart v k (w ∷ xs) x more [] y rest f g e p q =
      let same = head_is w y (xs ++ x ∷ more) rest e in
      inr (inr (omega arith, (p.0, rw (add-zero k, ← same) p.2)))
  apart v k (w ∷ xs) x more (z ∷ ys) y rest f g e p q =
      let same = head_is w z (xs ++ x ∷ more) (ys ++ y ∷ rest) e in
      let n : k + 1 + length xs ≡ k + length (w ∷ xs) = omega arith in
      let m : k + 1 + length ys ≡ k + length (z ∷ ys) = omega arith in
      elim (apart v (k + 1) xs x more ys y rest p.1 q.1 (tail_is w z (xs ++ x ∷ more) (ys ++ y ∷ rest) e) p.3 q.3) [
        | inl s ↦ inl (ap (λ (r : Fields). r ∷ xs) same ∙ ap (λ (l : List Fields). z ∷ l) s.0, s.1)
        | inr (inl s) ↦ inr (inl ((let l = s.0 in omega arith), (s.1.0, subst (λ (i : ℕ). IsRow v i x (Ok s.1.0)) n s.1.1)))
        | inr (inr s) ↦ inr (inr ((let l = s.0 in omega arith), (s.1.0, subst (λ (i : ℕ). IsRow v i y (Ok s.1.0)) m s.1.1)))
      ]

  -- a row that stands for a restriction has no fault
  sound_row : (v : Version) (i j : ℕ) (row : Fields) (r : Restriction) (why : RecordFault) → i ≡ j → IsRow v i row (Ok r)
      → IsRow v j row (Err why) → ⊥
  sound_row v i j row r why e p q = ok_not_err r why (one_row v j row (Ok r) (Err why)
      (subst (λ (n : ℕ). IsRow v n row (Ok r)) e p) q)

  no_fault : (v : Version) (n : ℕ) (row : Fields) (r : Restriction) (why : RecordFault) → n < most_rows
      → IsRow v (1 + n) row (Ok r)
      → ((n ≡ most_rows) × (why ≡ fault.TooManyRows)) ⊎ ((n < most_rows) × IsRow v (n + 1) row (Err why)) → ⊥
  no_fault v n row r why few p (inl t) = let e = t.0 in omega arith
  no_fault v n row r why few p (inr t) = sound_row v (1 + n) (n + 1) row r why (omega arith) p t.1

  one_end : (v : Version) (n m : ℕ) (x y : Fields) (a b : RecordFault) → n ≡ m → x ≡ y
      → ((n ≡ most_rows) × (a ≡ fault.TooManyRows)) ⊎ ((n < most_rows) × IsRow v (n + 1) x (Err a))
      → ((m ≡ most_rows) × (b ≡ fault.TooManyRows)) ⊎ ((m < most_rows) × IsRow v (m + 1) y (Err b)) → a ≡ b
  one_end v n m x y a b e s (inl p) (inl q) = p.1 ∙ sym q.1
  one_end v n m x y a b e s (inl p) (inr q) = let l = p.0 in let h = q.0 in absurd (omega arith)
  one_end v n m x y a b e s (inr p) (inl q) = let l = p.0 in let h = q.0 in absurd (omega arith)
  one_end v n m x y a b e s (inr p) (inr q) = err_is a b (one_row v (m + 1) y (Err a) (Err b) (rw (← e, ← s) p.1) q.1)

  one_first : (v : Version) (rows : List Fields) (a b : RecordFault) → FirstFault v rows a → FirstFault v rows b → a ≡ b
  one_first v rows a b p q =
      elim (apart v 1 p.before p.row p.after q.before q.row q.after p.found q.found (sym p.split ∙ q.split) p.sound.1 q.sound.1) [
        | inl s ↦ one_end v (length p.before) (length q.before) p.row q.row a b (ap length s.0) s.1 p.fault q.fault
        | inr (inl s) ↦ (let l = s.0 in let few = q.sound.0 in
            absurd (no_fault v (length p.before) p.row s.1.0 a (omega arith) s.1.1 p.fault))
        | inr (inr s) ↦ (let l = s.0 in let few = p.sound.0 in
            absurd (no_fault v (length q.before) q.row s.1.0 b (omega arith) s.1.1 q.fault))
      ]

  row_at : (v : Version) (k : ℕ) (xs : List Fields) (x : Fields) (more : List Fields) (f : List Restriction)
      → AreRecords v k (xs ++ x ∷ more) f
      → (r : Restriction) × IsRow v (k + length xs) x (Ok r)
  row_at v k [] x more f p = (p.0, rw (add-zero k) p.2)
  row_at v k (w ∷ xs) x more f p =
      let n : k + 1 + length xs ≡ k + length (w ∷ xs) = omega arith in
      let r = row_at v (k + 1) xs x more p.1 p.3 in
      (r.0, subst (λ (i : ℕ). IsRow v i x (Ok r.0)) n r.1)

  not_both : (v : Version) (rows : List Fields) (f : List Restriction) (why : RecordFault) → AreSoundRows v rows f
      → FirstFault v rows why → ⊥
  not_both v rows f why p q =
      let l = length-append q.before (q.row ∷ q.after) in
      let few = p.0 in
      let long = ap length q.split in
      let r = row_at v 1 q.before q.row q.after f (subst (λ (rs : List Fields). AreRecords v 1 rs f) q.split p.1) in
      no_fault v (length q.before) q.row r.0 why (omega arith) r.1 q.fault

  one_of_rows : (v : Version) (rows : List Fields) (a b : Result (List Restriction) RecordFault) → AreRows v rows a
      → AreRows v rows b → a ≡ b
  one_of_rows v rows (Ok f) (Ok g) p q = ap Ok (one_found v 1 rows f g p.1 q.1)
  one_of_rows v rows (Ok f) (Err w) p q = absurd (not_both v rows f w p q)
  one_of_rows v rows (Err w) (Ok g) p q = absurd (not_both v rows g w q p)
  one_of_rows v rows (Err a) (Err b) p q = ap Err (one_first v rows a b p q)

  one_of_table : (text : List Fields) (a b : Result (List Restriction) RecordFault) → IsTable text a → IsTable text b → a ≡ b
  one_of_table text a b (inl p) (inl q) =
      let e = sym p.2 ∙ q.2 in
      let v = one_version p.0 q.0 (head_is (header p.0) (header q.0) p.1 q.1 e) in
      let rows = tail_is (header p.0) (header q.0) p.1 q.1 e in
      one_of_rows q.0 q.1 a b (subst (λ (w : Version). AreRows w q.1 a) v
      (subst (λ (rs : List Fields). AreRows p.0 rs a) rows p.3)) q.3
  one_of_table text a b (inl p) (inr q) = absurd (q.0 p.0 p.1 p.2)
  one_of_table text a b (inr p) (inl q) = absurd (p.0 q.0 q.1 q.2)
  one_of_table text a b (inr p) (inr q) = p.1 ∙ sym q.1

  pub one_of_file : (bytes : List ℕ) (a b : Result (List Restriction) RecordFault) → IsFile bytes a → IsFile bytes b → a ≡ b
  one_of_file bytes a b (inl p) (inl q) = one_of_table (records default_config (strip_bom bytes)) a b p.1 q.1
  one_of_file bytes a b (inl p) (inr q) = let l = p.0 in let h = q.0 in absurd (omega arith)
  one_of_file bytes a b (inr p) (inl q) = let l = p.0 in let h = q.0 in absurd (omega arith)
  one_of_file bytes a b (inr p) (inr q) = p.1 ∙ sym q.1

-- the bytes of a file have one answer
pub one_file : (bytes : List ℕ) (a b : Result (List Restriction) RecordFault) → file.IsFile bytes a → file.IsFile bytes b
    → a ≡ b
one_file bytes a b p q =
    one_of_file one_meaning one_fault bytes a b (computed_file bytes a p) (computed_file bytes b q)
