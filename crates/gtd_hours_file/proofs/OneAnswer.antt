-- The bytes of a file of hours have one answer.
use Rattle.std.proofs.Common.{◌≡◌, ◌∙◌, sym, ap, refl, subst, ◌≤◌, ◌+◌, inl, inr, ℕ, List, [], ◌∷◌, ◌++◌}
use Rattle.std.proofs.Common.{length, arith}
use Rattle.std.proofs.Common.{length-append}
use Rattle.std.specs.Prelude.{◌↔◌, ℤ, Option, Some, None, MatchOption, Result, Ok, Err}
use Rattle.csv.specs.Reading.{default_config, records, strip_bom}
use Rattle.gtd_core.specs.Limits.{most_rows}
use Rattle.gtd_core.specs.Parts.{domain_tree}
use Rattle.gtd_core.specs.Trees.{Tree}
use Rattle.gtd_hours.specs.Cost.{counted}
use Rattle.gtd_hours_options.specs.Readings.{AreReadInOneWay, HowRead}
use Rattle.gtd_hours_options.specs.declared.fault.OptionsFault.{OptionsFault}
use Rattle.gtd_records.specs.Closing.{HoldsAt, Restriction}
use Rattle.gtd_rows.specs.Columns.{Fields, IsOrdered, IsSortedSet, closed_of, number_of, vehicles_of}
use Rattle.gtd_rows.specs.declared.direction.Closed.{Closed}
use Rattle.gtd_rows.specs.declared.vehicles.Vehicles.{Vehicles}
use Rattle.gtd_rows.specs.declared.vehicles.Vehicles.TheVariants.{Every, Only, AllBut}
use Rattle.gtd_rows.specs.declared.vehicles.Version.TheVariants as version
use Rattle.gtd_rows.specs.facts.Rising.{one_list}
use Rattle.gtd_hours_file.specs.HoursFile.{AreEach, AreOfFile, AreRows, AreTable, AreTooMany, IsFullRow}
use Rattle.gtd_hours_file.specs.HoursFile.{IsHoursColumn, IsHoursFault, IsHoursFile, IsHoursOf, IsRow, faults_of, header}
use Rattle.gtd_hours_file.specs.HoursFile.{sound_of, with_hours}
use Rattle.gtd_hours_file.specs.SameAnswers.{AreSameHours, AreSameRestrictions, AreSameRows, IsSameAnswer}
use Rattle.gtd_hours_file.specs.SameAnswers.{IsSameRestriction, IsSameRow}
use Rattle.gtd_hours_file.specs.Translated.{IsDomainOf, IsTranslated, IsTranslation}
use Rattle.gtd_hours_file.specs.declared.fault.HoursFileFault.{HoursFileFault}
use Rattle.gtd_hours_file.specs.declared.fault.HoursFileFault.TheVariants as fault
use Rattle.gtd_hours_file.specs.declared.row.HoursRow.{HoursRow}
use Rattle.gtd_hours_file.specs.declared.row.RowHours.{RowHours}

one_ascending : (codes xs ys : List ℕ) → IsSortedSet codes xs → IsSortedSet codes ys → xs ≡ ys
one_ascending codes xs ys p q =
    one_list xs ys p.order q.order (λ n h. (q.same n).1 ((p.same n).0 h)) (λ n h. (p.same n).1 ((q.same n).0 h))

one_ordered : (named a b : Vehicles) → IsOrdered named a → IsOrdered named b → a ≡ b
one_ordered Every a b p q = p ∙ sym q
one_ordered (Only codes) a b p q = p.2 ∙ ap (λ (types : List ℕ). Only types) (one_ascending codes p.0 q.0 p.1 q.1) ∙ sym q.2
one_ordered (AllBut codes) a b p q = p.2 ∙ ap (λ (types : List ℕ). AllBut types) (one_ascending codes p.0 q.0 p.1 q.1) ∙ sym q.2

-- what is the same as what both are
between : {A : Type 0} (R : A → A → Type 0) (a b x y : A) → a ≡ x → b ≡ y → R x y → R a b
between R a b x y p q r = subst (λ z. R z b) (sym p) (subst (λ z. R x z) (sym q) r)

agree : {X A : Type 0} (R : A → A → Type 0) (o : Option X) (e : A) (Q : X → A → Type 0) → R e e
    → ((x : X) (a b : A) → Q x a → Q x b → R a b)
    → (a b : A) → MatchOption o (a ≡ e) (λ x. Q x a) → MatchOption o (b ≡ e) (λ x. Q x b) → R a b
agree R None e Q same one a b p q = between R a b e e p q same
agree R (Some x) e Q same one a b p q = one x a b p q

head_is : (x y : Fields) (xs ys : List Fields) → x ∷ xs ≡ y ∷ ys → x ≡ y
head_is x y xs ys e = cc

tail_is : (x y : Fields) (xs ys : List Fields) → x ∷ xs ≡ y ∷ ys → xs ≡ ys
tail_is x y xs ys e = cc

-- lists of the same length with which a list begins
one_front : (xs ys : List Fields) (x y : Fields) (more rest : List Fields) → length xs ≡ length ys
    → xs ++ x ∷ more ≡ ys ++ y ∷ rest → xs ≡ ys
one_front [] [] x y more rest long e = refl
one_front [] (z ∷ ys) x y more rest long e = absurd (omega arith)
one_front (w ∷ xs) [] x y more rest long e = absurd (omega arith)
one_front (w ∷ xs) (z ∷ ys) x y more rest long e =
    let first = head_is w z (xs ++ x ∷ more) (ys ++ y ∷ rest) e in
    let others = one_front xs ys x y more rest (omega arith) (tail_is w z (xs ++ x ∷ more) (ys ++ y ∷ rest) e) in
    ap (λ (f : Fields). f ∷ xs) first ∙ ap (λ (l : List Fields). z ∷ l) others

-- ---- answers for a column and for a row

abbrev SameColumn : Result (Option RowHours) HoursFileFault → Result (Option RowHours) HoursFileFault → Type 0
SameColumn (Ok one) (Ok other) = AreSameHours one other
SameColumn (Err one) (Err other) = one ≡ other
SameColumn one other = ⊥

abbrev SameOfRow : Result HoursRow HoursFileFault → Result HoursRow HoursFileFault → Type 0
SameOfRow (Ok one) (Ok other) = IsSameRow one other
SameOfRow (Err one) (Err other) = one ≡ other
SameOfRow one other = ⊥

same_with : (element : ℕ) (closed : Closed) (vehicles : Vehicles) (one other : Result (Option RowHours) HoursFileFault)
    → SameColumn one other → SameOfRow (with_hours element closed vehicles one) (with_hours element closed vehicles other)
same_with element closed vehicles (Ok one) (Ok other) same =
    record { element = refl; closed = refl; vehicles = refl; hours = same }
same_with element closed vehicles (Ok one) (Err w) same = absurd same
same_with element closed vehicles (Err v) (Ok other) same = absurd same
same_with element closed vehicles (Err v) (Err w) same = same

module _ (how : HowRead) (one_way : AreReadInOneWay how) where
  -- ---- what is wrong with a text

  same_fault : (row : ℕ) (text : List ℕ) (v w : HoursFileFault) → IsHoursFault how row text v → IsHoursFault how row text w
      → v ≡ w
  same_fault row text v w (IsHoursFault.of_first x p e) (IsHoursFault.of_first y q f) =
      e ∙ ap (λ (bad : OptionsFault). fault.Hours row bad) (one_way.fault text x y p q) ∙ sym f
  same_fault row text v w (IsHoursFault.of_first x p e) (IsHoursFault.of_many read q more f) =
      absurd (one_way.apart text read x q p)
  same_fault row text v w (IsHoursFault.of_many read p more e) (IsHoursFault.of_first y q f) =
      absurd (one_way.apart text read y p q)
  same_fault row text v w (IsHoursFault.of_many read p more e) (IsHoursFault.of_many other q most f) =
      e ∙ ap (λ (n : ℕ). fault.TooMany row (counted n)) (one_way.cost text read other p q) ∙ sym f

  not_faulty : (row : ℕ) (text : List ℕ) (given : RowHours) (w : HoursFileFault) → IsHoursOf how text given
      → IsHoursFault how row text w → ⊥
  not_faulty row text given w is (IsHoursFault.of_first bad q f) = one_way.apart text given.read bad is.reads q
  not_faulty row text given w is (IsHoursFault.of_many read q more f) =
      let same = one_way.cost text given.read read is.reads q in
      let few = is.few in omega (arith, same, more, few)

  same_column : (row : ℕ) (text : List ℕ) (a b : Result (Option RowHours) HoursFileFault) → IsHoursColumn how row text a
      → IsHoursColumn how row text b → SameColumn a b
  same_column row [] a b p q = between SameColumn a b (Ok None) (Ok None) p q tt
  same_column row (c ∷ text) (Ok None) b p q = absurd p
  same_column row (c ∷ text) (Ok (Some x)) (Ok None) p q = absurd q
  same_column row (c ∷ text) (Ok (Some x)) (Ok (Some y)) p q =
      one_way.seconds (c ∷ text) x.read y.read p.reads q.reads
  same_column row (c ∷ text) (Ok (Some x)) (Err w) p q = absurd (not_faulty row (c ∷ text) x w p q)
  same_column row (c ∷ text) (Err v) (Ok None) p q = absurd q
  same_column row (c ∷ text) (Err v) (Ok (Some y)) p q = absurd (not_faulty row (c ∷ text) y v q p)
  same_column row (c ∷ text) (Err v) (Err w) p q = same_fault row (c ∷ text) v w p q

  abbrev Read : ℕ → ℕ → Closed → List ℕ → Vehicles → Result HoursRow HoursFileFault → Type 0
  Read row x c hours named r =
      (types : Vehicles) × (read : Result (Option RowHours) HoursFileFault)
      × IsOrdered named types × IsHoursColumn how row hours read × (r ≡ with_hours x c types read)

  same_read : (row x : ℕ) (c : Closed) (hours : List ℕ) (named : Vehicles) (a b : Result HoursRow HoursFileFault)
      → Read row x c hours named a → Read row x c hours named b → SameOfRow a b
  same_read row x c hours named a b p q =
      between SameOfRow a b (with_hours x c q.0 p.1) (with_hours x c q.0 q.1)
      (p.4 ∙ ap (λ (t : Vehicles). with_hours x c t p.1) (one_ordered named p.0 q.0 p.2 q.2)) q.4
      (same_with x c q.0 p.1 q.1 (same_column row hours p.1 q.1 p.3 q.3))

  same_full_row : (row : ℕ) (element closed vehicles hours : List ℕ) (a b : Result HoursRow HoursFileFault)
      → IsFullRow how row element closed vehicles hours a → IsFullRow how row element closed vehicles hours b → SameOfRow a b
  same_full_row row element closed vehicles hours a b p q =
      agree SameOfRow (number_of element) (Err (fault.Element row)) (λ x r.
      MatchOption (closed_of closed) (r ≡ Err (fault.Direction row)) (λ c.
      MatchOption (vehicles_of version.Two vehicles) (r ≡ Err (fault.Vehicle row)) (λ named. Read row x c hours named r))) refl
      (λ x. agree SameOfRow (closed_of closed) (Err (fault.Direction row)) (λ c r.
      MatchOption (vehicles_of version.Two vehicles) (r ≡ Err (fault.Vehicle row)) (λ named. Read row x c hours named r)) refl
      (λ c. agree SameOfRow (vehicles_of version.Two vehicles) (Err (fault.Vehicle row)) (λ named r. Read row x c hours named r)
      refl (λ named r s f g. same_read row x c hours named r s f g)))
      a b p q

  same_count_fault : (row : ℕ) (a b : Result HoursRow HoursFileFault) → a ≡ Err (fault.FieldCount row)
      → b ≡ Err (fault.FieldCount row) → SameOfRow a b
  same_count_fault row a b p q = between SameOfRow a b (Err (fault.FieldCount row)) (Err (fault.FieldCount row)) p q refl

  same_row : (row : ℕ) (fields : Fields) (a b : Result HoursRow HoursFileFault) → IsRow how row fields a
      → IsRow how row fields b → SameOfRow a b
  same_row row [] a b p q = same_count_fault row a b p q
  same_row row (c ∷ []) a b p q = same_count_fault row a b p q
  same_row row (c ∷ d ∷ []) a b p q = same_count_fault row a b p q
  same_row row (c ∷ d ∷ e ∷ []) a b p q = same_count_fault row a b p q
  same_row row (c ∷ d ∷ e ∷ f ∷ []) a b p q = same_full_row row c d e f a b p q
  same_row row (c ∷ d ∷ e ∷ f ∷ g ∷ more) a b p q = same_count_fault row a b p q

  -- ---- answers for a file

  abbrev Same : List HoursRow → List HoursRow → List HoursFileFault → List HoursFileFault → Type 0
  Same sound also faults others = AreSameRows sound also × (faults ≡ others)

  same_more : (a b : Result HoursRow HoursFileFault) (more rest : List HoursRow) (others left : List HoursFileFault)
      → SameOfRow a b → Same more rest others left
      → Same (sound_of a ++ more) (sound_of b ++ rest) (faults_of a ++ others) (faults_of b ++ left)
  same_more (Ok x) (Ok y) more rest others left first same = ((first, same.0), same.1)
  same_more (Ok x) (Err w) more rest others left first same = absurd first
  same_more (Err v) (Ok y) more rest others left first same = absurd first
  same_more (Err v) (Err w) more rest others left first same =
      (same.0, ap (λ (f : HoursFileFault). f ∷ others) first ∙ ap (λ (l : List HoursFileFault). w ∷ l) same.1)

  -- equal lists in place of them
  same_by : (s t sound also : List HoursRow) (f g faults others : List HoursFileFault) → sound ≡ s → also ≡ t → faults ≡ f
      → others ≡ g → Same s t f g → Same sound also faults others
  same_by s t sound also f g faults others a b c d same =
      (between AreSameRows sound also s t a b same.0, c ∙ same.1 ∙ sym d)

  same_each : (number : ℕ) (rows : List Fields) (sound also : List HoursRow) (faults others : List HoursFileFault)
      → AreEach how number rows sound faults → AreEach how number rows also others → Same sound also faults others
  same_each number [] sound also faults others p q = same_by [] [] sound also [] [] faults others p.0 q.0 p.1 q.1 (tt, refl)
  same_each number (row ∷ rows) sound also faults others p q =
      same_by (sound_of p.0 ++ p.1) (sound_of q.0 ++ q.1) sound also (faults_of p.0 ++ p.2) (faults_of q.0 ++ q.2) faults others
      p.5 q.5 p.6 q.6
      (same_more p.0 q.0 p.1 q.1 p.2 q.2 (same_row number row p.0 q.0 p.3 q.3)
      (same_each (number + 1) rows p.1 q.1 p.2 q.2 p.4 q.4))

  same_too_many : (rows : List Fields) (sound also : List HoursRow) (faults others : List HoursFileFault)
      → AreTooMany how rows sound faults → AreTooMany how rows also others → Same sound also faults others
  same_too_many rows sound also faults others p q =
      let front = one_front p.before q.before p.row q.row p.after q.after (p.many ∙ sym q.many) (sym p.split ∙ q.split) in
      let same = same_each 1 q.before sound also p.listed q.listed
      (subst (λ (l : List Fields). AreEach how 1 l sound p.listed) front p.each) q.each in
      (same.0, p.whole ∙ ap (λ (l : List HoursFileFault). l ++ (fault.TooManyRows ∷ [])) same.1 ∙ sym q.whole)

  not_few : (rows : List Fields) (sound : List HoursRow) (faults : List HoursFileFault) → length rows ≤ most_rows
      → AreTooMany how rows sound faults → ⊥
  not_few rows sound faults few p =
      let long = ap length p.split ∙ length-append p.before (p.row ∷ p.after) in
      let many = p.many in omega (arith, long, many, few)

  same_rows : (rows : List Fields) (sound also : List HoursRow) (faults others : List HoursFileFault)
      → AreRows how rows sound faults → AreRows how rows also others → Same sound also faults others
  same_rows rows sound also faults others (inl p) (inl q) = same_each 1 rows sound also faults others p.1 q.1
  same_rows rows sound also faults others (inl p) (inr q) = absurd (not_few rows also others p.0 q)
  same_rows rows sound also faults others (inr p) (inl q) = absurd (not_few rows sound faults q.0 p)
  same_rows rows sound also faults others (inr p) (inr q) = same_too_many rows sound also faults others p q

  same_table : (text : List Fields) (sound also : List HoursRow) (faults others : List HoursFileFault)
      → AreTable how text sound faults → AreTable how text also others → Same sound also faults others
  same_table text sound also faults others (inl p) (inl q) =
      let rows = tail_is header header p.0 q.0 (sym p.1 ∙ q.1) in
      same_rows q.0 sound also faults others (subst (λ (l : List Fields). AreRows how l sound faults) rows p.2) q.2
  same_table text sound also faults others (inl p) (inr q) = absurd (q.0 p.0 p.1)
  same_table text sound also faults others (inr p) (inl q) = absurd (p.0 q.0 q.1)
  same_table text sound also faults others (inr p) (inr q) =
      same_by [] [] sound also (fault.Header ∷ []) (fault.Header ∷ []) faults others p.1 q.1 p.2 q.2 (tt, refl)

  same_of_file : (bytes : List ℕ) (sound also : List HoursRow) (faults others : List HoursFileFault)
      → AreOfFile how bytes sound faults → AreOfFile how bytes also others → Same sound also faults others
  same_of_file bytes sound also faults others (inl p) (inl q) =
      same_table (records default_config (strip_bom bytes)) sound also faults others p.1 q.1
  same_of_file bytes sound also faults others (inl p) (inr q) = let l = p.0 in let h = q.0 in absurd (omega arith)
  same_of_file bytes sound also faults others (inr p) (inl q) = let l = p.0 in let h = q.0 in absurd (omega arith)
  same_of_file bytes sound also faults others (inr p) (inr q) =
      same_by [] [] sound also (fault.TooLarge ∷ []) (fault.TooLarge ∷ []) faults others p.1 q.1 p.2 q.2 (tt, refl)

  -- the bytes of a file have one answer
  pub one_answer : (bytes : List ℕ) (a b : Result (List HoursRow) (List HoursFileFault)) → IsHoursFile how bytes a
      → IsHoursFile how bytes b → IsSameAnswer a b
  one_answer bytes (Ok rows) (Ok also) p q = (same_of_file bytes rows also [] [] p q).0
  one_answer bytes (Ok rows) (Err w) p q = absurd (q.2 (sym (same_of_file bytes rows q.0 [] w p q.1).1))
  one_answer bytes (Err v) (Ok also) p q = absurd (p.2 (same_of_file bytes p.0 also v [] p.1 q).1)
  one_answer bytes (Err v) (Err w) p q = (same_of_file bytes p.0 q.0 v w p.1 q.1).1

-- ---- what the rows are translated to

same_seconds : (one other : Option RowHours) (a b : Option Tree) → AreSameHours one other → IsDomainOf one a → IsDomainOf other b
    → (second : ℤ) → HoldsAt a second ↔ HoldsAt b second
same_seconds None None a b same p q second =
    between (λ (x y : Option Tree). HoldsAt x second ↔ HoldsAt y second) a b None None p q ((λ h. h), (λ h. h))
same_seconds None (Some y) a b same p q second = absurd same
same_seconds (Some x) None a b same p q second = absurd same
same_seconds (Some x) (Some y) a b same p q second =
    between (λ (x y : Option Tree). HoldsAt x second ↔ HoldsAt y second) a b (Some (domain_tree p.0)) (Some (domain_tree q.0))
    p.1 q.1 (
      (λ h. (q.2 second).1 ((same second).0 ((p.2 second).0 h))),
      (λ h. (p.2 second).1 ((same second).1 ((q.2 second).0 h))),
    )

same_restriction : (one other : HoursRow) (r s : Restriction) → IsSameRow one other → IsTranslated one r → IsTranslated other s
    → IsSameRestriction r s
same_restriction one other r s same p q = record {
  element = p.element ∙ same.element ∙ sym q.element;
  closed = p.closed ∙ same.closed ∙ sym q.closed;
  vehicles = p.vehicles ∙ same.vehicles ∙ sym q.vehicles;
  seconds = same_seconds one.hours other.hours r.domain s.domain same.hours p.domain q.domain;
}

-- the same rows are translated to the same restrictions
pub same_translation : (ones others : List HoursRow) (found also : List Restriction) → AreSameRows ones others
    → IsTranslation ones found → IsTranslation others also → AreSameRestrictions found also
same_translation [] [] found also same p q = between AreSameRestrictions found also [] [] p q tt
same_translation [] (y ∷ others) found also same p q = absurd same
same_translation (x ∷ ones) [] found also same p q = absurd same
same_translation (x ∷ ones) (y ∷ others) found also same p q =
    between AreSameRestrictions found also (p.0 ∷ p.1) (q.0 ∷ q.1) p.4 q.4
    (same_restriction x y p.0 q.0 same.0 p.2 q.2, same_translation ones others p.1 q.1 same.1 p.3 q.3)
