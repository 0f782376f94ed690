-- Which rows name a code, once one row more is among them.
use Rattle.std.proofs.Common.{◌≡◌, ◌≢◌, ◌∙◌, ◌↔◌, ◌<◌, ◌≤◌, ◌+◌, ◌⊎◌, sym, ap, subst, refl, inl, inr, arith, ℕ, zero, suc, List}
use Rattle.std.proofs.Common.{[], ◌∷◌}
use Rattle.std.proofs.Common.{◌++◌, add-one, add-zero, append-nil, append_assoc, cond, get_or, length, map, min, nat_lt, set}
use Rattle.std.proofs.Common.{Bool, Contains, String}
use Rattle.std.proofs.lemmas.Bool.{cases_order, lt-ltb}
use Rattle.std.proofs.lemmas.List.{get_or-set_other, get_or-set_same, length-set, map-append}
use Rattle.std.proofs.lemmas.List.Elements.{Contains-append_left, Contains-push, Contains-push_cases}
use Rattle.std.proofs.lemmas.List.Sums.{sum_by-append, sum_by-cons}
use Rattle.std.specs.Prelude.{string_bytes}
use Rattle.std.specs.declared.alloc.Global.{Global}
use Rattle.gtd_rows.specs.Columns.{Fields}
use Rattle.gtd_rows.specs.declared.vehicles.Version.{Version}
use Rattle.gtd_warnings.specs.Codes.{AreLoneBelow, Names, NamesAlone, codes_named, naming, rows_needed}
use Rattle.gtd_faults.specs.Doubts.{AreLoneLines}
use Rattle.gtd_faults.specs.Naming.{AreKept, AreLoneBefore, IsKept, kept_lines}
use Rattle.gtd_faults.specs.declared.codes.Naming.{Naming}
use Rattle.gtd_faults.specs.declared.codes.Naming.TheVariants as naming_of
use Rattle.gtd_faults.proofs.ListFacts.{lone_lines_join}

same_or_other : (a b : ℕ) → (a ≡ b) ⊎ (a ≢ b)
same_or_other a b = elim (cases_order a b) [
  | inl e ↦ inl e
  | inr (inl lt) ↦ inr (λ e. omega (arith, lt, e))
  | inr (inr gt) ↦ inr (λ e. omega (arith, gt, e))
]

none_of : (x : ℕ) → Contains [] x → ⊥
none_of x h = let lt = h.1 in omega (arith, lt)

-- ---- one row more

names_old : (named : List (List ℕ)) (codes : List ℕ) (code before : ℕ) → Names named code before
    → Names (named ++ codes ∷ []) code before
names_old [] codes code before n = absurd (none_of code n)
names_old (x ∷ named) codes code zero n = n
names_old (x ∷ named) codes code (suc before) n = names_old named codes code before n

names_last : (named : List (List ℕ)) (codes : List ℕ) (code : ℕ) → Contains codes code
    → Names (named ++ codes ∷ []) code (length named)
names_last [] codes code n = n
names_last (x ∷ named) codes code n = names_last named codes code n

names_cases : (named : List (List ℕ)) (codes : List ℕ) (code before : ℕ) → Names (named ++ codes ∷ []) code before
    → Names named code before ⊎ ((before ≡ length named) × Contains codes code)
names_cases [] codes code zero n = inr (refl, n)
names_cases [] codes code (suc before) n = absurd (none_of code n)
names_cases (x ∷ named) codes code zero n = inl n
names_cases (x ∷ named) codes code (suc before) n = elim (names_cases named codes code before n) [
  | inl h ↦ inl h
  | inr h ↦ inr (ap suc h.0, h.1)
]

-- a row that names more codes names at least these
names_more : (named : List (List ℕ)) (a b : List ℕ) (code before : ℕ) → (Contains a code → Contains b code)
    → Names (named ++ a ∷ []) code before → Names (named ++ b ∷ []) code before
names_more named a b code before more n = elim (names_cases named a code before n) [
  | inl h ↦ names_old named b code before h
  | inr h ↦ subst (λ (k : ℕ). Names (named ++ b ∷ []) code k) (sym h.0) (names_last named b code (more h.1))
]

-- ---- what is kept of a code, where the same rows name it

module _ (path bytes : List ℕ) where
  kept_same : (a b : List (List ℕ)) (code : ℕ) → ((before : ℕ) → Names a code before ↔ Names b code before) → (kept : Naming)
      → IsKept path bytes a code kept → IsKept path bytes b code kept
  kept_same a b code same naming_of.Never is = λ before n. is before ((same before).1 n)
  kept_same a b code same (naming_of.Once row text) is =
      (is.0, is.1, ((same is.0).0 is.2.0, (λ other n. is.2.1 other ((same other).1 n))), is.3)
  kept_same a b code same naming_of.Often is = (is.0, is.1, is.2, (same is.0).0 is.3, (same is.1).0 is.4)

  all_same : (a b : List (List ℕ)) (kept : List Naming) → ((code before : ℕ) → Names a code before ↔ Names b code before)
      → AreKept path bytes a kept → AreKept path bytes b kept
  all_same a b kept same are =
      (are.0, (λ code lt. kept_same a b code (same code) (get_or kept code naming_of.Never) (are.1 code lt)))

  -- a row that names none
  pub none_more : (named : List (List ℕ)) (kept : List Naming) → AreKept path bytes named kept
      → AreKept path bytes (named ++ [] ∷ []) kept
  none_more named kept are =
      all_same named (named ++ [] ∷ []) kept
      (λ code before. (
        names_old named [] code before,
        (λ n. elim (names_cases named [] code before n) [
          | inl h ↦ h
          | inr h ↦ absurd (none_of code h.1)
        ]),
      ))
      are

  -- the same codes in another order
  reordered : (named : List (List ℕ)) (a b : List ℕ) (kept : List Naming)
      → ((code : ℕ) → Contains a code ↔ Contains b code) → AreKept path bytes (named ++ a ∷ []) kept
      → AreKept path bytes (named ++ b ∷ []) kept
  reordered named a b kept same are =
      all_same (named ++ a ∷ []) (named ++ b ∷ []) kept
      (λ code before. (names_more named a b code before (same code).0, names_more named b a code before (same code).1))
      are

  module _ (named : List (List ℕ)) (codes : List ℕ) (code : ℕ) where
    abbrev before_it : List (List ℕ)
    before_it = named ++ codes ∷ []

    abbrev with_it : List (List ℕ)
    with_it = named ++ (codes ++ code ∷ []) ∷ []

    last_names : Names with_it code (length named)
    last_names = names_last named (codes ++ code ∷ []) code (Contains-push codes code)

    still : (before : ℕ) → Names before_it code before → Names with_it code before
    still before n = names_more named codes (codes ++ code ∷ []) code before (Contains-append_left codes (code ∷ []) code) n

    was : (before : ℕ) → Names with_it code before → Names before_it code before ⊎ (before ≡ length named)
    was before n = elim (names_cases named (codes ++ code ∷ []) code before n) [
      | inl h ↦ inl (names_old named codes code before h)
      | inr h ↦ inr h.0
    ]

    pub now_once : (row : ℕ) (text : String Global) → row ≡ length named + 1 → IsKept path bytes before_it code naming_of.Never
        → AreLoneLines path bytes (record { row = row; code = code } ∷ []) (string_bytes text)
        → IsKept path bytes with_it code (naming_of.Once row text)
    now_once row text e never lines = (
      length named,
      e,
      (
        last_names,
        (λ other n. elim (was other n) [
          | inl h ↦ absurd (never other h)
          | inr same ↦ same
        ]),
      ),
      lines,
    )

    pub still_once : (row : ℕ) (text : String Global) → row ≡ length named + 1
        → IsKept path bytes before_it code (naming_of.Once row text) → IsKept path bytes with_it code (naming_of.Once row text)
    still_once row text e is =
        let here : is.0 ≡ length named = (let r = is.1 in omega (arith, e, r)) in (
          is.0,
          is.1,
          (
            still is.0 is.2.0,
            (λ other n. elim (was other n) [
              | inl h ↦ is.2.1 other h
              | inr same ↦ same ∙ sym here
            ]),
          ),
          is.3,
        )

    pub now_often : (first row : ℕ) (text : String Global) → row ≡ length named + 1 → first ≢ row
        → IsKept path bytes before_it code (naming_of.Once first text) → IsKept path bytes with_it code naming_of.Often
    now_often first row text e ne is = (
      is.0,
      length named,
      (λ same. ne (let r = is.1 in omega (arith, e, r, same))),
      still is.0 is.2.0,
      last_names,
    )

    pub still_often : IsKept path bytes before_it code naming_of.Often → IsKept path bytes with_it code naming_of.Often
    still_often is = (is.0, is.1, is.2, still is.0 is.3, still is.1 is.4)

    -- another code is named as before
    other_code : (other : ℕ) → code ≢ other → (kept : Naming) → IsKept path bytes before_it other kept
        → IsKept path bytes with_it other kept
    other_code other ne kept is =
        kept_same before_it with_it other
        (λ before. (
          names_more named codes (codes ++ code ∷ []) other before (Contains-append_left codes (code ∷ []) other),
          names_more named (codes ++ code ∷ []) codes other before (λ h. elim (Contains-push_cases codes code other h) [
            | inl old ↦ old
            | inr e ↦ absurd (ne e)
          ]),
        ))
        kept is

    pub code_beyond : (kept : List Naming) → length kept ≤ code → AreKept path bytes before_it kept
        → AreKept path bytes with_it kept
    code_beyond kept beyond are = (
      are.0,
      (λ other lt.
          other_code other (λ e. (let n = are.0 in omega (arith, beyond, lt, n, e))) (get_or kept other naming_of.Never)
          (are.1 other lt)),
    )

    pub code_kept : (kept : List Naming) → AreKept path bytes before_it kept
        → IsKept path bytes with_it code (get_or kept code naming_of.Never) → AreKept path bytes with_it kept
    code_kept kept are here = (
      are.0,
      (λ other lt. elim (same_or_other code other) [
        | inl e ↦ subst (λ (k : ℕ). IsKept path bytes with_it k (get_or kept k naming_of.Never)) e here
        | inr ne ↦ other_code other ne (get_or kept other naming_of.Never) (are.1 other lt)
      ]),
    )

    pub code_set : (kept : List Naming) (next : Naming) → code < length kept → AreKept path bytes before_it kept
        → IsKept path bytes with_it code next → AreKept path bytes with_it (set kept code next)
    code_set kept next within are here = (
      length-set kept code next ∙ are.0,
      (λ other lt. elim (same_or_other code other) [
        | inl e ↦ subst (λ (k : ℕ). IsKept path bytes with_it k (get_or (set kept code next) k naming_of.Never)) e
            (subst (IsKept path bytes with_it code) (sym (get_or-set_same kept code next naming_of.Never within)) here)
        | inr ne ↦ subst (IsKept path bytes with_it other)
            (sym (get_or-set_other kept code other next naming_of.Never (λ e. ne (sym e))))
            (other_code other ne (get_or kept other naming_of.Never) (are.1 other lt))
      ]),
    )

-- ---- the codes that one row alone names, one by one

module _ (path bytes : List ℕ) (named : List (List ℕ)) where
  pub none_lone : (text : List ℕ) → AreLoneBefore path bytes named 0 text text
  unfolding AreLoneBelow
  none_lone text = ([], refl, [], refl, sym (append-nil text))

  one_lone : (code row : ℕ) (lines : String Global) (old new : List ℕ) → AreLoneBefore path bytes named code old new
      → IsKept path bytes named code (naming_of.Once row lines)
      → AreLoneBefore path bytes named (code + 1) old (new ++ string_bytes lines)
  unfolding AreLoneBelow
  one_lone code row lines old new far is = rw (add-one code) (
    far.0 ++ record { row = row; code = code } ∷ [],
    (far.0, far.1, inl (is.0, is.2, rw (is.1) refl)),
    far.2 ++ string_bytes lines,
    lone_lines_join path bytes far.0 (record { row = row; code = code } ∷ []) far.2 (string_bytes lines) far.3 is.3,
    ap (λ (l : List ℕ). l ++ string_bytes lines) far.4 ∙ append_assoc old far.2 (string_bytes lines),
  )

  no_lone : (code : ℕ) (old new : List ℕ) → AreLoneBefore path bytes named code old new
      → ((before : ℕ) → NamesAlone named code before → ⊥) → AreLoneBefore path bytes named (code + 1) old new
  unfolding AreLoneBelow
  no_lone code old new far none =
      rw (add-one code) (far.0, (far.0, far.1, inr (none, refl)), far.2, far.3, far.4)

  pub naming_lone : (code : ℕ) (kept : Naming) (old new : List ℕ) → AreLoneBefore path bytes named code old new
      → IsKept path bytes named code kept → AreLoneBefore path bytes named (code + 1) old (new ++ kept_lines kept)
  naming_lone code naming_of.Never old new far never =
      subst (AreLoneBefore path bytes named (code + 1) old) (sym (append-nil new))
      (no_lone code old new far (λ before alone. never before alone.0))
  naming_lone code (naming_of.Once row text) old new far is = one_lone code row text old new far is
  naming_lone code naming_of.Often old new far often =
      subst (AreLoneBefore path bytes named (code + 1) old) (sym (append-nil new))
      (no_lone code old new far (λ before alone. often.2 (alone.1 often.0 often.3 ∙ sym (alone.1 often.1 often.4))))

-- ---- how many rows name a code

one_of : (x : ℕ) (xs : List ℕ) → Contains (x ∷ xs) x
one_of x xs = (0, omega arith, refl)

some_same : (x y : List ℕ) → ((code : ℕ) → Contains x code ↔ Contains y code)
    → nat_lt 0 (length x) ≡ nat_lt 0 (length y)
some_same [] [] same = refl
some_same [] (c ∷ y) same = absurd (none_of c ((same c).1 (one_of c y)))
some_same (c ∷ x) [] same = absurd (none_of c ((same c).0 (one_of c x)))
some_same (c ∷ x) (d ∷ y) same =
    lt-ltb 0 (length (c ∷ x)) (omega arith) ∙ sym (lt-ltb 0 (length (d ∷ y)) (omega arith))

naming_more : (named : List (List ℕ)) (codes : List ℕ) → naming (named ++ codes ∷ [])
    ≡ naming named + cond (nat_lt 0 (length codes)) 1 0
naming_more named codes =
    let names = λ (one : List ℕ). cond (nat_lt 0 (length one)) 1 0 in
    let all = sum_by-append names named (codes ∷ []) in
    let last = sum_by-cons names codes [] in
    all ∙ ap (λ (n : ℕ). naming named + n) (last ∙ add-zero (names codes))

-- the codes of one row more, as they were read
module _ (v : Version) (rows : List Fields) (row : Fields) (codes : List ℕ)
    (same : (code : ℕ) → Contains codes code ↔ Contains (codes_named v row) code) where
  pub kept_more : (path bytes : List ℕ) (kept : List Naming)
      → AreKept path bytes (map (codes_named v) rows ++ codes ∷ []) kept
      → AreKept path bytes (map (codes_named v) (rows ++ row ∷ [])) kept
  kept_more path bytes kept are =
      subst (λ (l : List (List ℕ)). AreKept path bytes l kept) (sym (map-append (codes_named v) rows (row ∷ [])))
      (reordered path bytes (map (codes_named v) rows) codes (codes_named v row) kept same are)

  pub counted_more : (n : ℕ)
      → n ≡ min (naming (map (codes_named v) rows) + cond (nat_lt 0 (length codes)) 1 0) rows_needed
      → n ≡ min (naming (map (codes_named v) (rows ++ row ∷ []))) rows_needed
  counted_more n is =
      let named = map (codes_named v) rows in
      let all : naming (map (codes_named v) (rows ++ row ∷ [])) ≡ naming named + cond (nat_lt 0 (length codes)) 1 0 =
      ap naming (map-append (codes_named v) rows (row ∷ [])) ∙ naming_more named (codes_named v row)
      ∙ ap (λ (b : Bool). naming named + cond b 1 0) (sym (some_same codes (codes_named v row) same)) in
      is ∙ ap (λ (k : ℕ). min k rows_needed) (sym all)
