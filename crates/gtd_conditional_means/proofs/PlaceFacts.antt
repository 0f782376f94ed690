-- The place of the first row of a kind and a name, kept and found.
use Rattle.std.proofs.Common.{◌≡◌, ◌∙◌, sym, ap, refl, subst, arith, ◌+◌, ℕ, true, false, cond}
use Rattle.std.proofs.Common.{Ordering, List, [], ◌∷◌, ◌++◌, ◌⊎◌, inl, inr, suc, length}
use Rattle.std.specs.Prelude.{Result, Ok, Err, OnOk, Option, Some, None, is_some, option_map, slice_get, Vec}
use Rattle.std.specs.Option.{option_or}
use Rattle.std.specs.BTreeMap.{UpdatesBy, is_at}
use Rattle.std.specs.Cmp.{eq_by_cmp_equiv}
use Rattle.std.specs.Cmp.Lexicographic.{bytes_decides, nat_list_cmp_total, nat_list_eq_equiv, slice_cmp}
use Rattle.std.specs.Map.{KeepsOthers}
use Rattle.std.specs.Ordering.{eq_by_cmp, is_eq, nat_cmp}
use Rattle.std.specs.Str.{bytes_eq}
use Rattle.std.specs.declared.alloc.Global.{Global}
use Rattle.std.proofs.lemmas.Bool.{cases_Bool, cond-true, cond-false}
use Rattle.std.proofs.lemmas.Map.Text.{is_eq-slice_cmp}
use Rattle.gtd_conditional_means.specs.Meanings.{is_of_kind, is_row_of, kind_of_meaning, meaning_of, place_of}
use Rattle.gtd_conditional_means.specs.Names.{is_there}
use Rattle.gtd_conditional_means.specs.Places.{AreOf, NamePlaces, place_in, places_of}
use Rattle.gtd_conditional_means.specs.declared.meaning.Meaning.{Meaning}
use Rattle.gtd_conditional_means.specs.declared.meaning.Meaning.TheVariants as meaning
use Rattle.gtd_conditional_means.specs.declared.meaning.MeansKind.{MeansKind}
use Rattle.gtd_conditional_means.specs.declared.meaning.MeansKind.TheVariants as kind
use Rattle.gtd_conditional_means.specs.declared.meaning.MeansRow.{MeansRow}
use Rattle.gtd_conditional_means.specs.declared.places.Places.{Places}

-- ---- a name whose place is kept

-- the order of names as keys
abbrev names_cmp : Vec ℕ Global → Vec ℕ Global → Ordering
names_cmp x y = slice_cmp nat_cmp x.items y.items

apart : (key other name : List ℕ) → bytes_eq key other ≡ false → is_eq (slice_cmp nat_cmp key name) ≡ true
    → is_eq (slice_cmp nat_cmp other name) ≡ false
apart key other name differ same =
    is_eq-slice_cmp other name
    ∙ nat_list_eq_equiv.symm other name
    ∙ sym (nat_list_eq_equiv.congr key name other (sym (is_eq-slice_cmp key name) ∙ same)) ∙ differ

module _ (key : Vec ℕ Global) (old new : NamePlaces) (place : ℕ)
    (updates : UpdatesBy names_cmp (names_cmp key) old new (Some place)) where
  others : KeepsOthers (eq_by_cmp names_cmp) (is_at (names_cmp key)) old.entries new.entries
      → (other : List ℕ) → bytes_eq key.items other ≡ false → place_in new other ≡ place_in old other
  unfolding KeepsOthers
  others keeps other differ =
      keeps (is_at (λ (k : Vec ℕ Global). slice_cmp nat_cmp other k.items))
      (λ x y. (eq_by_cmp_equiv nat_list_cmp_total).congr other x.items y.items)
      (λ k. apart key.items other k.items differ)

  put_by : (other : List ℕ) → (bytes_eq key.items other ≡ true) ⊎ (bytes_eq key.items other ≡ false)
      → place_in new other ≡ cond (bytes_eq key.items other) (Some place) (place_in old other)
  put_by other (inl same) =
      subst (λ (name : List ℕ). place_in new name ≡ Some place) ((bytes_decides key.items other).0 same) updates.1
      ∙ sym (cond-true (bytes_eq key.items other) (Some place) (place_in old other) same)
  put_by other (inr differ) =
      others updates.3 other differ ∙ sym (cond-false (bytes_eq key.items other) (Some place) (place_in old other) differ)

  pub put : (other : List ℕ) → place_in new other ≡ cond (bytes_eq key.items other) (Some place) (place_in old other)
  put other = put_by other (cases_Bool (bytes_eq key.items other))

-- a name whose place is kept is not put again
pub kept_first : (old : NamePlaces) (key other : List ℕ) (place : ℕ) → is_some (place_in old key) ≡ true
    → place_in old other ≡ option_or (place_in old other) (cond (bytes_eq key other) (Some place) None)
kept_first old key other place there = by_name (cases_Bool (bytes_eq key other)) where
  found : (o : Option ℕ) (p : Option ℕ) → is_some o ≡ true → o ≡ option_or o p
  found None p is = cc
  found (Some x) p is = refl

  alone : (o : Option ℕ) → o ≡ option_or o None
  alone None = refl
  alone (Some x) = refl

  by_name : (bytes_eq key other ≡ true) ⊎ (bytes_eq key other ≡ false)
      → place_in old other ≡ option_or (place_in old other) (cond (bytes_eq key other) (Some place) None)
  by_name (inl same) =
      found (place_in old other) (cond (bytes_eq key other) (Some place) None)
      (subst (λ (n : List ℕ). is_some (place_in old n) ≡ true) ((bytes_decides key other).0 same) there)
  by_name (inr differ) =
      alone (place_in old other)
      ∙ ap (option_or (place_in old other)) (sym (cond-false (bytes_eq key other) (Some place) None differ))

-- a name whose place is not kept is put
pub put_new : (old new : NamePlaces) (key other : List ℕ) (place : ℕ) → is_some (place_in old key) ≡ false
    → place_in new other ≡ cond (bytes_eq key other) (Some place) (place_in old other)
    → place_in new other ≡ option_or (place_in old other) (cond (bytes_eq key other) (Some place) None)
put_new old new key other place none puts = puts ∙ by_name (cases_Bool (bytes_eq key other)) where
  first : (o : Option ℕ) (p : Option ℕ) → is_some o ≡ false → p ≡ option_or o p
  first None p is = refl
  first (Some x) p is = cc

  alone : (o : Option ℕ) → o ≡ option_or o None
  alone None = refl
  alone (Some x) = refl

  by_name : (bytes_eq key other ≡ true) ⊎ (bytes_eq key other ≡ false)
      → cond (bytes_eq key other) (Some place) (place_in old other)
      ≡ option_or (place_in old other) (cond (bytes_eq key other) (Some place) None)
  by_name (inl same) =
      cond-true (bytes_eq key other) (Some place) (place_in old other) same
      ∙ first (place_in old other) (Some place)
      (subst (λ (n : List ℕ). is_some (place_in old n) ≡ false) ((bytes_decides key other).0 same) none)
      ∙ ap (option_or (place_in old other)) (sym (cond-true (bytes_eq key other) (Some place) None same))
  by_name (inr differ) =
      cond-false (bytes_eq key other) (Some place) (place_in old other) differ ∙ alone (place_in old other)
      ∙ ap (option_or (place_in old other)) (sym (cond-false (bytes_eq key other) (Some place) None differ))

-- ---- a row behind others

pub place_behind : (kind : MeansKind) (name : List ℕ) (before : ℕ) (rows : List MeansRow) (row : MeansRow)
    → place_of before kind name (rows ++ row ∷ [])
    ≡ option_or (place_of before kind name rows) (cond (is_row_of kind name row) (Some (before + length rows)) None)
place_behind kind name before [] row =
    let e : before ≡ before + 0 = omega arith in
    ap (λ (n : ℕ). cond (is_row_of kind name row) (Some n) None) e
place_behind kind name before (first ∷ rows) row =
    by_first kind name before first rows row (place_behind kind name (before + 1) rows row)
    (cases_Bool (is_row_of kind name first)) where
      by_first : (kind : MeansKind) (name : List ℕ) (before : ℕ) (first : MeansRow) (rows : List MeansRow) (row : MeansRow)
          → place_of (before + 1) kind name (rows ++ row ∷ [])
          ≡ option_or (place_of (before + 1) kind name rows)
          (cond (is_row_of kind name row) (Some (before + 1 + length rows)) None)
          → (is_row_of kind name first ≡ true) ⊎ (is_row_of kind name first ≡ false)
          → place_of before kind name (first ∷ rows ++ row ∷ [])
          ≡ option_or (place_of before kind name (first ∷ rows))
          (cond (is_row_of kind name row) (Some (before + length (first ∷ rows))) None)
      by_first kind name before first rows row later (inl same) = rw same refl
      by_first kind name before first rows row later (inr differ) =
          let e : before + 1 + length rows ≡ before + length (first ∷ rows) = omega arith in
          rw differ (later ∙ ap (λ (n : ℕ). option_or (place_of (before + 1) kind name rows)
          (cond (is_row_of kind name row) (Some n) None)) e)

-- what is put of a row among the places of a kind
abbrev pub Puts : MeansRow → ℕ → MeansKind → NamePlaces → NamePlaces → Type 0
Puts row place kind old new =
    (name : List ℕ) → place_in new name ≡ option_or (place_in old name) (cond (is_row_of kind name row) (Some place) None)

pub put_behind : (rows : List MeansRow) (row : MeansRow) (place : ℕ) (old new : Places) → place ≡ length rows
    → ((kind : MeansKind) → Puts row place kind (places_of kind old) (places_of kind new)) → AreOf rows old
    → AreOf (rows ++ row ∷ []) new
put_behind rows row place old new last puts are =
    let next : place ≡ 0 + length rows = omega (arith, last) in λ kind name.
    puts kind name
    ∙ ap (λ (o : Option ℕ). option_or o (cond (is_row_of kind name row) (Some place) None)) (are kind name)
    ∙ ap (λ (n : ℕ). option_or (place_of 0 kind name rows) (cond (is_row_of kind name row) (Some n) None)) next
    ∙ sym (place_behind kind name 0 rows row)

-- the row is of another kind
pub puts_none : (row : MeansRow) (place : ℕ) (kind : MeansKind) (old : NamePlaces) → is_of_kind kind row.meaning ≡ false
    → Puts row place kind old old
puts_none row place kind old other = λ name. rw other (alone (place_in old name)) where
  alone : (o : Option ℕ) → o ≡ option_or o None
  alone None = refl
  alone (Some x) = refl

-- or of this one
pub puts_one : (row : MeansRow) (place : ℕ) (kind : MeansKind) (old new : NamePlaces) → is_of_kind kind row.meaning ≡ true
    → ((other : List ℕ) → place_in new other
    ≡ option_or (place_in old other) (cond (bytes_eq row.name.items other) (Some place) None)) → Puts row place kind old new
puts_one row place kind old new same puts = λ name. rw same (puts name)

-- a meaning is of its kind, and of no other
of_kind : (m : Meaning) (k : MeansKind) → kind_of_meaning m ≡ k → is_of_kind k m ≡ true
of_kind m k is = subst (λ (other : MeansKind). is_of_kind other m ≡ true) is (own m) where
  own : (m : Meaning) → is_of_kind (kind_of_meaning m) m ≡ true
  own (meaning.Mode types) = refl
  own (meaning.Condition types) = refl
  own (meaning.Value access) = refl
  own meaning.Ignore = refl

not_of : (k : MeansKind) (m : Meaning) → (kind_of_meaning m ≡ k → ⊥) → is_of_kind k m ≡ false
not_of kind.Mode (meaning.Mode types) no' = absurd (no' refl)
not_of kind.Mode (meaning.Condition types) no' = refl
not_of kind.Mode (meaning.Value access) no' = refl
not_of kind.Mode meaning.Ignore no' = refl
not_of kind.Condition (meaning.Mode types) no' = refl
not_of kind.Condition (meaning.Condition types) no' = absurd (no' refl)
not_of kind.Condition (meaning.Value access) no' = refl
not_of kind.Condition meaning.Ignore no' = refl
not_of kind.Value (meaning.Mode types) no' = refl
not_of kind.Value (meaning.Condition types) no' = refl
not_of kind.Value (meaning.Value access) no' = absurd (no' refl)
not_of kind.Value meaning.Ignore no' = refl
not_of kind.Ignore (meaning.Mode types) no' = refl
not_of kind.Ignore (meaning.Condition types) no' = refl
not_of kind.Ignore (meaning.Value access) no' = refl
not_of kind.Ignore meaning.Ignore no' = absurd (no' refl)

on_ok : {A E : Type 0} (r : Result A E) (P Q : Type 0) → (P → Q) → OnOk r P → OnOk r Q
on_ok (Ok x) P Q f p = f p
on_ok (Err why) P Q f p = tt

-- the places of a kind were put, and those of the others are as they were
module _ {A E : Type 0} (r : Result A E) (row : MeansRow) (place : ℕ) (old new : Places) (k : MeansKind)
    (is : kind_of_meaning row.meaning ≡ k)
    (others : (other : MeansKind) → (other ≡ k → ⊥) → places_of other new ≡ places_of other old) where
  puts_each : ((other : List ℕ) → place_in (places_of k new) other
      ≡ option_or (place_in (places_of k old) other) (cond (bytes_eq row.name.items other) (Some place) None))
      → (other : MeansKind) → (other ≡ k) ⊎ (other ≡ k → ⊥) → Puts row place other (places_of other old) (places_of other new)
  puts_each puts other (inl same) =
      subst (λ (o : MeansKind). Puts row place o (places_of o old) (places_of o new)) (sym same)
      (puts_one row place k (places_of k old) (places_of k new) (of_kind row.meaning k is) puts)
  puts_each puts other (inr differ) =
      subst (λ (p : NamePlaces). Puts row place other (places_of other old) p) (sym (others other differ))
      (puts_none row place other (places_of other old) (not_of other row.meaning (λ e. differ (sym e ∙ is))))

  same_kind : (a b : MeansKind) → (a ≡ b) ⊎ (a ≡ b → ⊥)
  same_kind kind.Mode kind.Mode = inl refl
  same_kind kind.Mode kind.Condition = inr (λ e. cc)
  same_kind kind.Mode kind.Value = inr (λ e. cc)
  same_kind kind.Mode kind.Ignore = inr (λ e. cc)
  same_kind kind.Condition kind.Mode = inr (λ e. cc)
  same_kind kind.Condition kind.Condition = inl refl
  same_kind kind.Condition kind.Value = inr (λ e. cc)
  same_kind kind.Condition kind.Ignore = inr (λ e. cc)
  same_kind kind.Value kind.Mode = inr (λ e. cc)
  same_kind kind.Value kind.Condition = inr (λ e. cc)
  same_kind kind.Value kind.Value = inl refl
  same_kind kind.Value kind.Ignore = inr (λ e. cc)
  same_kind kind.Ignore kind.Mode = inr (λ e. cc)
  same_kind kind.Ignore kind.Condition = inr (λ e. cc)
  same_kind kind.Ignore kind.Value = inr (λ e. cc)
  same_kind kind.Ignore kind.Ignore = inl refl

  pub put_of_kind : OnOk r ((other : List ℕ) → place_in (places_of k new) other
      ≡ option_or (place_in (places_of k old) other) (cond (bytes_eq row.name.items other) (Some place) None))
      → OnOk r ((rows : List MeansRow) → place ≡ length rows → AreOf rows old → AreOf (rows ++ row ∷ []) new)
  put_of_kind h =
      on_ok r _ _ (λ puts rows last are. put_behind rows row place old new last (λ other. puts_each puts other (same_kind other k)) are)
      h

-- the places of the other kinds
pub others_modes : (old : Places) (new : NamePlaces) (other : MeansKind) → (other ≡ kind.Mode → ⊥)
    → places_of other (record { modes = new; conditions = old.conditions; values = old.values; ignored = old.ignored }) ≡ places_of other old
others_modes old new kind.Mode no' = absurd (no' refl)
others_modes old new kind.Condition no' = refl
others_modes old new kind.Value no' = refl
others_modes old new kind.Ignore no' = refl

pub others_conditions : (old : Places) (new : NamePlaces) (other : MeansKind) → (other ≡ kind.Condition → ⊥)
    → places_of other (record { modes = old.modes; conditions = new; values = old.values; ignored = old.ignored }) ≡ places_of other old
others_conditions old new kind.Mode no' = refl
others_conditions old new kind.Condition no' = absurd (no' refl)
others_conditions old new kind.Value no' = refl
others_conditions old new kind.Ignore no' = refl

pub others_values : (old : Places) (new : NamePlaces) (other : MeansKind) → (other ≡ kind.Value → ⊥)
    → places_of other (record { modes = old.modes; conditions = old.conditions; values = new; ignored = old.ignored }) ≡ places_of other old
others_values old new kind.Mode no' = refl
others_values old new kind.Condition no' = refl
others_values old new kind.Value no' = absurd (no' refl)
others_values old new kind.Ignore no' = refl

pub others_ignored : (old : Places) (new : NamePlaces) (other : MeansKind) → (other ≡ kind.Ignore → ⊥)
    → places_of other (record { modes = old.modes; conditions = old.conditions; values = old.values; ignored = new }) ≡ places_of other old
others_ignored old new kind.Mode no' = refl
others_ignored old new kind.Condition no' = refl
others_ignored old new kind.Value no' = refl
others_ignored old new kind.Ignore no' = absurd (no' refl)

-- ---- what the row at a place says

-- a place among rows after others, and the row there
found_from : (kind : MeansKind) (name : List ℕ) (before : ℕ) (rows : List MeansRow) (p : ℕ)
    → place_of before kind name rows ≡ Some p
    → (i : ℕ) × (p ≡ before + i) × (meaning_of kind name rows ≡ option_map (λ r. r.meaning) (slice_get rows i))
found_from kind name before [] p is = cc
found_from kind name before (row ∷ rows) p is =
    by_row kind name before row rows p is (found_from kind name (before + 1) rows p) (cases_Bool (is_row_of kind name row)) where
      by_row : (kind : MeansKind) (name : List ℕ) (before : ℕ) (row : MeansRow) (rows : List MeansRow) (p : ℕ)
          → place_of before kind name (row ∷ rows) ≡ Some p
          → (place_of (before + 1) kind name rows ≡ Some p
          → (i : ℕ) × (p ≡ before + 1 + i) × (meaning_of kind name rows ≡ option_map (λ r. r.meaning) (slice_get rows i)))
          → (is_row_of kind name row ≡ true) ⊎ (is_row_of kind name row ≡ false)
          → (i : ℕ) × (p ≡ before + i)
          × (meaning_of kind name (row ∷ rows) ≡ option_map (λ r. r.meaning) (slice_get (row ∷ rows) i))
      by_row kind name before row rows p is later (inl same) =
          let e : Some before ≡ Some p = rw same at is in
          (0, (let at : before ≡ p = cc in omega (arith, at)), rw same refl)
      by_row kind name before row rows p is later (inr differ) =
          let more = later (rw differ at is) in
          (suc more.0, omega (arith, more.1), rw differ more.2)

none_from : (kind : MeansKind) (name : List ℕ) (before : ℕ) (rows : List MeansRow)
    → place_of before kind name rows ≡ None → meaning_of kind name rows ≡ None
none_from kind name before [] is = refl
none_from kind name before (row ∷ rows) is =
    by_row kind name before row rows is (none_from kind name (before + 1) rows) (cases_Bool (is_row_of kind name row)) where
      by_row : (kind : MeansKind) (name : List ℕ) (before : ℕ) (row : MeansRow) (rows : List MeansRow)
          → place_of before kind name (row ∷ rows) ≡ None
          → (place_of (before + 1) kind name rows ≡ None → meaning_of kind name rows ≡ None)
          → (is_row_of kind name row ≡ true) ⊎ (is_row_of kind name row ≡ false)
          → meaning_of kind name (row ∷ rows) ≡ None
      by_row kind name before row rows is later (inl same) = let e : Some before ≡ None = rw same at is in cc
      by_row kind name before row rows is later (inr differ) = rw differ (later (rw differ at is))

module _ (kind : MeansKind) (name : List ℕ) (rows : List MeansRow) where
  -- no row has the name
  pub none_said : place_of 0 kind name rows ≡ None → meaning_of kind name rows ≡ None
  none_said none = none_from kind name 0 rows none

  -- or what is said stands at the place
  pub said_at : (place : ℕ) → place_of 0 kind name rows ≡ Some place
      → meaning_of kind name rows ≡ option_map (λ r. r.meaning) (slice_get rows place)
  said_at place is =
      let found = found_from kind name 0 rows place is in
      let same : found.0 ≡ place = (let e = found.1 in omega (arith, e)) in
      found.2 ∙ ap (λ (i : ℕ). option_map (λ r. r.meaning) (slice_get rows i)) same

-- a name is repeated exactly if its place is kept
pub repeated : (kind : MeansKind) (name : List ℕ) (rows : List MeansRow)
    → is_some (place_of 0 kind name rows) ≡ is_there (meaning_of kind name rows)
repeated kind name rows = from kind name 0 rows where
  from : (kind : MeansKind) (name : List ℕ) (before : ℕ) (rows : List MeansRow)
      → is_some (place_of before kind name rows) ≡ is_there (meaning_of kind name rows)
  from kind name before [] = refl
  from kind name before (row ∷ rows) =
      by_row kind name before row rows (from kind name (before + 1) rows) (cases_Bool (is_row_of kind name row)) where
        by_row : (kind : MeansKind) (name : List ℕ) (before : ℕ) (row : MeansRow) (rows : List MeansRow)
            → is_some (place_of (before + 1) kind name rows) ≡ is_there (meaning_of kind name rows)
            → (is_row_of kind name row ≡ true) ⊎ (is_row_of kind name row ≡ false)
            → is_some (place_of before kind name (row ∷ rows)) ≡ is_there (meaning_of kind name (row ∷ rows))
        by_row kind name before row rows later (inl same) = rw same refl
        by_row kind name before row rows later (inr differ) = rw differ later
