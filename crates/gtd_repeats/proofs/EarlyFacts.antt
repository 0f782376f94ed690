-- The first rows of each element, with one row more; and the first of them that a row is within.
use Rattle.std.proofs.Common.{◌≡◌, ◌∙◌, ap, refl, sym, subst, arith, cond, inl, inr, ◌⊎◌, ◌+◌, ◌<◌, ◌≤◌, ℕ}
use Rattle.std.proofs.Common.{Bool, true, false, List, [], ◌∷◌, ◌++◌, get_or, length, length-append, take}
use Rattle.std.specs.Prelude.{◌==◌, slice_index_or}
use Rattle.std.specs.Global.{Vec}
use Rattle.std.specs.List.{Contains, count_by}
use Rattle.std.proofs.lemmas.Bool.{cases_Bool, eqb-true}
use Rattle.std.proofs.lemmas.Bool.Decides.{nat_tests}
use Rattle.std.proofs.lemmas.List.Sums.{count_by_more_no, count_by_more_yes, sum_by-append}
use Rattle.gtd_records.specs.Closing.{Restriction}
use Rattle.gtd_repeats.specs.Buckets.{entries_at, with_entry}
use Rattle.gtd_repeats.specs.Findings.{IsCompared, IsEarly, IsFirstWithin, IsWithinNone, IsWithinOf, rows_of}
use Rattle.gtd_repeats.specs.Kin.{AreAllKin, AreElementBuckets, AreKin, IsAt, entries_with}
use Rattle.gtd_repeats.specs.Sameness.{row_at}
use Rattle.gtd_repeats.specs.declared.buckets.Entry.{Entry}
use Rattle.gtd_repeats.proofs.BucketFacts.{has_last, has_still}
use Rattle.gtd_repeats.proofs.KinFacts.{nothing}
use Rattle.gtd_repeats.proofs.ListFacts.{any_default, by_lt, push_last, push_other}

same_tests : (a b : ℕ) → a ≡ b → (a == b) ≡ true
same_tests a b e = grind (arith, nat_tests)

-- ---- a list with one entry more

at_pushed : (xs : List Entry) (x y : Entry) (i : ℕ) → IsAt (xs ++ x ∷ []) i y → IsAt xs i y ⊎ ((i ≡ length xs) × (y ≡ x))
at_pushed xs x y i h =
    let l = length-append xs (x ∷ []) in
    by_lt {P = IsAt xs i y ⊎ ((i ≡ length xs) × (y ≡ x))} i (length xs)
    (λ lt. inl (lt, sym (push_other xs x y i lt) ∙ h.1))
    (λ ge.
    let inside = h.0 in
    let at : i ≡ length xs = omega (arith, inside, l, ge) in
    inr (at, sym h.1 ∙ ap (λ (k : ℕ). slice_index_or (xs ++ x ∷ []) k y) at ∙ push_last xs x y))

pushed_yes : (xs : List Entry) (x : Entry) (number : ℕ) → (x.number == number) ≡ true
    → entries_with (xs ++ x ∷ []) number ≡ entries_with xs number + 1
pushed_yes xs x number e =
    sum_by-append (λ (y : Entry). cond (y.number == number) 1 0) xs (x ∷ [])
    ∙ ap (λ (b : Bool). entries_with xs number + (0 + cond b 1 0)) e

pushed_no : (xs : List Entry) (x : Entry) (number : ℕ) → (x.number == number) ≡ false
    → entries_with (xs ++ x ∷ []) number ≡ entries_with xs number
pushed_no xs x number e =
    sum_by-append (λ (y : Entry). cond (y.number == number) 1 0) xs (x ∷ [])
    ∙ ap (λ (b : Bool). entries_with xs number + (0 + cond b 1 0)) e ∙ omega arith

-- ---- one row more

module _ (rows : List Restriction) (entry : Entry) (inside : entry.row < length rows)
    (named : (row_at rows entry.row).element ≡ entry.number) (element : ℕ) where
  counted_yes : (entry.number == element) ≡ true → rows_of rows element (entry.row + 1) ≡ rows_of rows element entry.row + 1
  counted_yes e = count_by_more_yes (λ (r : Restriction). r.element == element) rows entry.row nothing inside
      (ap (λ (n : ℕ). n == element) named ∙ e)

  counted_no : (entry.number == element) ≡ false → rows_of rows element (entry.row + 1) ≡ rows_of rows element entry.row
  counted_no e = count_by_more_no (λ (r : Restriction). r.element == element) rows entry.row nothing inside
      (ap (λ (n : ℕ). n == element) named ∙ e)

  module _ (xs : List Entry) (are : AreKin rows entry.row element xs) where
    abbrev pushed : List Entry
    pushed = xs ++ entry ∷ []

    early_here : entry.number ≡ element → entries_with xs element < 64 → IsEarly rows element entry.row
    early_here is few = (named ∙ is, let le = are.enough few in omega (arith, le, few))

    each_grown : (entry.number ≡ element → entries_with xs element < 64) → (place : ℕ) (x : Entry) → IsAt pushed place x
        → (x.row < entry.row + 1) × (x.number ≡ element → IsEarly rows element x.row)
    each_grown few place x at = elim (at_pushed xs entry x place at) [
      | inl old ↦ let h = are.each place x old in ((let lt = h.0 in omega (arith, lt)), h.1)
      | inr new ↦
          subst (λ (y : Entry). (y.row < entry.row + 1) × (y.number ≡ element → IsEarly rows element y.row)) (sym new.1)
          (omega arith, λ is. early_here is (few is))
    ]

    all_grown : (row : ℕ) → row < entry.row + 1 → IsEarly rows element row
        → Contains pushed (record { number = element; row = row })
    all_grown row lt early =
        let x : Entry = record { number = element; row = row } in
        by_lt {P = Contains pushed x} row entry.row
        (λ less. has_still xs entry x (are.all row less early))
        (λ ge.
        let at : row ≡ entry.row = omega (arith, lt, ge) in
        let is : entry.number ≡ element = sym named ∙ ap (λ (k : ℕ). (row_at rows k).element) (sym at) ∙ early.0 in
        let same : entry ≡ x = ap (λ (k : ℕ). record { number = k; row = entry.row }) is
        ∙ ap (λ (k : ℕ). record { number = element; row = k }) (sym at) in
        subst (λ (y : Entry). Contains pushed y) same (has_last xs entry))

    order_grown : (i j : ℕ) (x y : Entry) → i < j → IsAt pushed i x → IsAt pushed j y → x.row < y.row
    order_grown i j x y lt ai aj =
        let l = length-append xs (entry ∷ []) in
        elim (at_pushed xs entry x i ai) [
          | inl old ↦ elim (at_pushed xs entry y j aj) [
            | inl also ↦ are.order i j x y lt old also
            | inr new ↦ subst (λ (z : Entry). x.row < z.row) (sym new.1) (are.each i x old).0
          ]
          | inr new ↦ let e = new.0 in let last = aj.0 in absurd (omega (arith, e, last, lt, l))
        ]

    -- the row is added to the entries
    pub grown : (entry.number ≡ element → entries_with xs element < 64) → AreKin rows (entry.row + 1) element pushed
    grown few =
        let old = are.few in
        elim (cases_Bool (entry.number == element)) [
          | inl p ↦
              let a = pushed_yes xs entry element p in
              let b = counted_yes p in
              record {
                each = each_grown few;
                all = all_grown;
                order = order_grown;
                few = omega (arith, a, b, old);
                enough = λ less.
                    let under : entries_with xs element < 64 = omega (arith, a, less) in
                    let le = are.enough under in omega (arith, a, b, le);
              }
          | inr q ↦
              let a = pushed_no xs entry element q in
              let b = counted_no q in
              record {
                each = each_grown few;
                all = all_grown;
                order = order_grown;
                few = omega (arith, a, b, old);
                enough = λ less.
                    let under : entries_with xs element < 64 = omega (arith, a, less) in
                    let le = are.enough under in omega (arith, a, b, le);
              }
        ]

    all_stay : (entry.number ≡ element → 64 ≤ entries_with xs element) → (row : ℕ) → row < entry.row + 1
        → IsEarly rows element row → Contains xs (record { number = element; row = row })
    all_stay full row lt early =
        by_lt {P = Contains xs (record { number = element; row = row })} row entry.row
        (λ less. are.all row less early)
        (λ ge.
        let at : row ≡ entry.row = omega (arith, lt, ge) in
        let is : entry.number ≡ element = sym named ∙ ap (λ (k : ℕ). (row_at rows k).element) (sym at) ∙ early.0 in
        let most = full is in
        let some = are.few in
        let few : rows_of rows element entry.row < 64 = subst (λ (k : ℕ). rows_of rows element k < 64) at early.1 in
        absurd (omega (arith, most, some, few)))

    -- the row is not added
    pub stays : (entry.number ≡ element → 64 ≤ entries_with xs element) → AreKin rows (entry.row + 1) element xs
    stays full =
        let old = are.few in
        elim (cases_Bool (entry.number == element)) [
          | inl p ↦
              let b = counted_yes p in
              let most = full (eqb-true entry.number element p) in
              record {
                each = λ place x at. let h = are.each place x at in ((let lt = h.0 in omega (arith, lt)), h.1);
                all = all_stay full;
                order = are.order;
                few = omega (arith, b, old);
                enough = λ less. absurd (omega (arith, less, most));
              }
          | inr q ↦
              let b = counted_no q in
              record {
                each = λ place x at. let h = are.each place x at in ((let lt = h.0 in omega (arith, lt)), h.1);
                all = all_stay full;
                order = are.order;
                few = omega (arith, b, old);
                enough = λ less. let le = are.enough less in omega (arith, b, le);
              }
        ]

-- ---- all buckets

module _ (rows : List Restriction) (indices : List ℕ) (entry : Entry) (old : List (Vec Entry)) (bucket : ℕ)
    (inside : entry.row < length rows) (named : (row_at rows entry.row).element ≡ entry.number)
    (placed : AreElementBuckets rows indices) (at : get_or indices entry.row 0 ≡ bucket)
    (are : AreAllKin rows indices entry.row old) where
  -- a row of the entry's element has its bucket
  one_bucket : (row : ℕ) → row < length rows → entry.number ≡ (row_at rows row).element → get_or indices row 0 ≡ bucket
  one_bucket row here is = placed.same row entry.row here inside (sym (named ∙ is)) ∙ at

  pub kin_stay : 64 ≤ entries_with (entries_at old bucket) entry.number → AreAllKin rows indices (entry.row + 1) old
  kin_stay full row here =
      let element = (row_at rows row).element in
      stays rows entry inside named element (entries_at old (get_or indices row 0)) (are row here)
      (λ is. rw (one_bucket row here is) (subst (λ (n : ℕ). 64 ≤ entries_with (entries_at old bucket) n) is full))

  chosen : {A : Type 0} (P : A → Type 0) (b : Bool) (x y : A) → (b ≡ true → P x) → (b ≡ false → P y) → P (cond b x y)
  chosen P true x y f g = f refl
  chosen P false x y f g = g refl

  pub kin_more : (new : List (Vec Entry)) → entries_with (entries_at old bucket) entry.number < 64
      → ((other : ℕ) → entries_at new other ≡ with_entry bucket entry other (entries_at old other))
      → AreAllKin rows indices (entry.row + 1) new
  kin_more new few added row here =
      let element = (row_at rows row).element in
      let other = get_or indices row 0 in
      let xs = entries_at old other in
      subst (λ (l : List Entry). AreKin rows (entry.row + 1) element l) (sym (added other))
      (chosen (λ (l : List Entry). AreKin rows (entry.row + 1) element l) (other == bucket) (xs ++ entry ∷ []) xs
      (λ p. grown rows entry inside named element xs (are row here)
      (λ is. rw (one_bucket row here is) (subst (λ (n : ℕ). entries_with (entries_at old bucket) n < 64) is few)))
      (λ q. stays rows entry inside named element xs (are row here)
      (λ is. let e = same_tests other bucket (one_bucket row here is) in let no : true ≡ false = sym e ∙ q in absurd cc)))

no_entry : (rows : List Restriction) (element : ℕ) → AreKin rows 0 element []
no_entry rows element = record {
  each = λ place x at. let lt = at.0 in absurd (omega (arith, lt));
  all = λ row lt early. absurd (omega (arith, lt));
  order = λ i j x y lt at also. let l = at.0 in absurd (omega (arith, l));
  few = omega arith;
  enough = λ less. omega arith;
}

pub no_kin : (rows : List Restriction) (indices : List ℕ) (buckets : List (Vec Entry))
    → ((bucket : ℕ) → entries_at buckets bucket ≡ []) → AreAllKin rows indices 0 buckets
no_kin rows indices buckets empty row here =
    let element = (row_at rows row).element in
    subst (λ (l : List Entry). AreKin rows 0 element l) (sym (empty (get_or indices row 0))) (no_entry rows element)

-- the element of a row, as it is read
pub element_is : (rows : List Restriction) (row : ℕ) (r : Restriction) → row < length rows → r ≡ slice_index_or rows row r
    → (row_at rows row).element ≡ r.element
element_is rows row r inside e =
    ap (λ (x : Restriction). x.element) (sym (e ∙ any_default rows row r nothing inside))

-- ---- the first that the row is within

module _ (rows : List Restriction) (row : ℕ) (entries : List Entry) where
  -- none of the first entries, so many, is of such a row
  abbrev pub NoneBefore : ℕ → Type 0
  NoneBefore count = (k : ℕ) (x : Entry) → k < count → IsAt entries k x → x.number ≡ (row_at rows row).element
      → IsWithinOf rows row x.row → ⊥

  pub none_before : NoneBefore 0
  none_before k x lt at is within = omega (arith, lt)

  pub none_yet : (i : ℕ) (d : Entry) → i < length entries
      → ((slice_index_or entries i d).number ≡ (row_at rows row).element
      → IsWithinOf rows row (slice_index_or entries i d).row → ⊥)
      → NoneBefore i → NoneBefore (i + 1)
  none_yet i d inside here so_far k x lt at is within =
      by_lt {P = ⊥} k i (λ less. so_far k x less at is within) (λ ge.
      let e : i ≡ k = omega (arith, lt, ge) in
      let same : x ≡ slice_index_or entries i d =
      sym at.1 ∙ ap (λ (n : ℕ). slice_index_or entries n x) (sym e) ∙ any_default entries i x d inside in
      here (ap (λ (y : Entry). y.number) (sym same) ∙ is)
      (subst (λ (y : Entry). IsWithinOf rows row y.row) same within))

  module _ (are : AreKin rows (length rows) (row_at rows row).element entries) where
    pub none_within : NoneBefore (length entries) → IsWithinNone rows row
    none_within none other compared within =
        let h = are.all other compared.inside compared.early in
        none h.0 (record { number = (row_at rows row).element; row = other }) h.1 (h.1, h.2) refl within

    pub first_within : (i : ℕ) (d : Entry) → i < length entries
        → (slice_index_or entries i d).number ≡ (row_at rows row).element
        → IsWithinOf rows row (slice_index_or entries i d).row → NoneBefore i
        → IsFirstWithin rows row (slice_index_or entries i d).row
    first_within i d inside is within none =
        let x = slice_index_or entries i d in
        let here : IsAt entries i x = (inside, any_default entries i x d inside) in
        let each = are.each i x here in
        record {
          compared = record { inside = each.0; early = each.1 is };
          within = within;
          least = λ k less compared also.
              let h = are.all k compared.inside compared.early in
              let y : Entry = record { number = (row_at rows row).element; row = k } in
              by_lt {P = ⊥} h.0 i (λ before. none h.0 y before (h.1, h.2) refl also) (λ ge.
              by_lt {P = ⊥} i h.0
              (λ after. let more = are.order i h.0 x y after here (h.1, h.2) in omega (arith, more, less))
              (λ le.
              let at : h.0 ≡ i = omega (arith, ge, le) in
              let same : y ≡ x = sym h.2 ∙ ap (λ (n : ℕ). slice_index_or entries n y) at ∙ any_default entries i y d inside in
              let e = ap (λ (z : Entry). z.row) same in omega (arith, e, less)));
        }
