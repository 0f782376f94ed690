-- Rows that say nothing new can be left out: from each of them finitely many steps, each to a row beyond it, lead to a row that
-- is kept. It serves the law of needless rows.
use Rattle.std.proofs.Common.{◌≡◌, ◌∙◌, ap, refl, sym, subst, arith, cond, inl, inr, ◌⊎◌, ◌+◌, ◌<◌, ℕ, ℤ, zero, suc}
use Rattle.std.proofs.Common.{Bool, true, false, List, [], ◌∷◌, ◌++◌, length, Option, Some, None}
use Rattle.std.specs.Prelude.{◌==◌, ◌||◌, Any, slice_index_or}
use Rattle.std.specs.List.{list_any}
use Rattle.std.proofs.lemmas.Bool.{cases_Bool, eqb-true}
use Rattle.std.proofs.lemmas.List.Folds.{list_any-append}
use Rattle.gtd_core.specs.Seconds.{IsHorizonSecond}
use Rattle.gtd_records.specs.Closing.{Closes, Restriction}
use Rattle.gtd_rows.specs.Serving.{ClosesDirection}
use Rattle.gtd_rows.specs.declared.direction.Closed.{Closed}
use Rattle.gtd_rows.specs.declared.direction.Closed.TheVariants.{Both, One}
use Rattle.gtd_rows.specs.declared.direction.Direction.{Direction}
use Rattle.gtd_report.specs.Run.{IsVehicleType}
use Rattle.gtd_repeats.specs.Findings.{AreFindings, AreFindingsOf, IsSaidOfRow, IsSaidOfText, with_finding}
use Rattle.gtd_repeats.specs.Sameness.{ClosesWithin, IsSameRow, IsWithinRow, row_at}
use Rattle.gtd_repeats.specs.Without.{CloseSame, says_either, says_same, says_within, without, without_from}
use Rattle.gtd_repeats.specs.declared.alike.Kind.TheVariants as kind
use Rattle.gtd_repeats.specs.declared.findings.Finding.{Finding}
use Rattle.gtd_repeats.specs.declared.findings.Finding.TheVariants.{SameRow, WithinRow, SameMeaning}
use Rattle.gtd_repeats.proofs.AlikeFacts.{itself}
use Rattle.gtd_repeats.proofs.KinFacts.{nothing}
use Rattle.gtd_repeats.proofs.ListFacts.{any_default, by_lt}
use Rattle.gtd_repeats.proofs.TextFacts.{both_in_one, one_in_one}

-- ---- rows within others

within_on : (r s u : Restriction) → IsWithinRow r s → IsWithinRow s u → IsWithinRow r u
within_on r s u h k = record {
  element = h.element ∙ k.element;
  closed = λ d c. k.closed d (h.closed d c);
  vehicles = λ v is serves. k.vehicles v is (h.vehicles v is serves);
  seconds = λ t is holds. k.seconds t is (h.seconds t is holds);
}

closed_same : (a b : Closed) → ClosesWithin a b → ClosesWithin b a → a ≡ b
closed_same Both Both h k = refl
closed_same Both (One d) h k = absurd (both_in_one d h)
closed_same (One d) Both h k = absurd (both_in_one d k)
closed_same (One d) (One only) h k = ap One ((one_in_one d only).0 h)

-- rows within each other say the same
same_of : (r s : Restriction) → IsWithinRow r s → IsWithinRow s r → IsSameRow r s
same_of r s h k = record {
  element = h.element;
  closed = closed_same r.closed s.closed h.closed k.closed;
  vehicles = λ v is. (h.vehicles v is, k.vehicles v is);
  seconds = λ t is. (h.seconds t is, k.seconds t is);
}

-- and rows that say the same are within each other
within_first : (first r : Restriction) → IsSameRow first r → IsWithinRow r first
within_first first r h = record {
  element = sym h.element;
  closed = λ d c. subst (λ (x : Closed). ClosesDirection x d) (sym h.closed) c;
  vehicles = λ v is serves. (h.vehicles v is).1 serves;
  seconds = λ t is holds. (h.seconds t is).1 holds;
}

-- ---- a strict order of rows

-- the row is within the other, which comes before it if they say the same
abbrev Beyond : List Restriction → ℕ → ℕ → Type 0
Beyond rows row other = (other < length rows) × IsWithinRow (row_at rows row) (row_at rows other)
    × (IsSameRow (row_at rows row) (row_at rows other) → other < row)

beyond_on : (rows : List Restriction) (i j k : ℕ) → Beyond rows i j → Beyond rows j k → Beyond rows i k
beyond_on rows i j k h g = (
  g.0,
  within_on (row_at rows i) (row_at rows j) (row_at rows k) h.1 g.1,
  λ same.
      let back = within_first (row_at rows i) (row_at rows k) same in
      let to_first = within_on (row_at rows j) (row_at rows k) (row_at rows i) g.1 back in
      let to_second = within_on (row_at rows k) (row_at rows i) (row_at rows j) back h.1 in
      let one = h.2 (same_of (row_at rows i) (row_at rows j) h.1 to_first) in
      let two = g.2 (same_of (row_at rows j) (row_at rows k) g.1 to_second) in
      omega (arith, one, two),
)

never_beyond : (rows : List Restriction) (i : ℕ) → Beyond rows i i → ⊥
never_beyond rows i h = let less = h.2 (itself kind.Row (row_at rows i)) in omega (arith, less)

-- ---- lists of rows that are left to come to

abbrev In : ℕ → List ℕ → Type 0
In k [] = ⊥
In k (x ∷ xs) = (k ≡ x) ⊎ In k xs

-- a list without one of its numbers
abbrev TakenOut : List ℕ → ℕ → Type 0
TakenOut xs j = (ys : List ℕ) × (length xs ≡ suc (length ys)) × ((k : ℕ) → In k xs → (k ≡ j → ⊥) → In k ys)

taken_out : (xs : List ℕ) (j : ℕ) → In j xs → TakenOut xs j
taken_out [] j h = absurd h
taken_out (x ∷ xs) j (inl e) = (xs, refl, others)
  where
    others : (k : ℕ) → In k (x ∷ xs) → (k ≡ j → ⊥) → In k xs
    others k (inl f) n = absurd (n (f ∙ sym e))
    others k (inr g) n = g
taken_out (x ∷ xs) j (inr h) = with_first (taken_out xs j h)
  where
    still : (ys : List ℕ) → ((k : ℕ) → In k xs → (k ≡ j → ⊥) → In k ys) → (k : ℕ) → In k (x ∷ xs) → (k ≡ j → ⊥) → In k (x ∷ ys)
    still ys more k (inl f) n = inl f
    still ys more k (inr g) n = inr (more k g n)

    with_first : TakenOut xs j → TakenOut (x ∷ xs) j
    with_first r = (x ∷ r.0, ap suc r.1, still r.0 r.2)

below : ℕ → List ℕ
below zero = []
below (suc n) = n ∷ below n

in_below : (n k : ℕ) → k < n → In k (below n)
unfolding below
in_below zero k lt = absurd (omega (arith, lt))
in_below (suc n) k lt = by_lt {P = In k (n ∷ below n)} k n (λ less. inr (in_below n k less)) (λ ge. inl (omega (arith, lt, ge)))

-- ---- from row to row

module _ (rows : List Restriction) (out : ℕ → Bool) (Closing : ℕ → Type 0)
    (step : (i : ℕ) → i < length rows → out i ≡ true → (j : ℕ) × Beyond rows i j)
    (carried : (i j : ℕ) → Beyond rows i j → Closing i → Closing j) where
  abbrev Kept : Type 0
  Kept = (j : ℕ) × (j < length rows) × (out j ≡ false) × Closing j

  kept_beyond : (m : ℕ) (left : List ℕ) (i : ℕ) → length left ≡ m → i < length rows → Closing i
      → ((j : ℕ) → Beyond rows i j → In j left) → Kept
  kept_beyond zero [] i size inside closing all =
      elim (cases_Bool (out i)) [
        | inl p ↦ let s = step i inside p in absurd (all s.0 s.1)
        | inr q ↦ (i, inside, q, closing)
      ]
  kept_beyond zero (x ∷ left) i size inside closing all = absurd (omega (arith, size))
  kept_beyond (suc m) left i size inside closing all =
      elim (cases_Bool (out i)) [
        | inl p ↦
            let s = step i inside p in
            let r = taken_out left s.0 (all s.0 s.1) in
            let fewer : length r.0 ≡ m = let n = r.1 in omega (arith, size, n) in
            kept_beyond m r.0 s.0 fewer s.1.0 (carried i s.0 s.1 closing)
            (λ k b. r.2 k (all k (beyond_on rows i s.0 k s.1 b))
            (λ e. never_beyond rows s.0 (subst (λ (n : ℕ). Beyond rows s.0 n) e b)))
        | inr q ↦ (i, inside, q, closing)
      ]

  pub kept_from : (i : ℕ) → i < length rows → Closing i → Kept
  kept_from i inside closing = kept_beyond (length (below (length rows))) (below (length rows)) i refl inside closing
      (λ j b. in_below (length rows) j b.0)

-- ---- what is said of a row

either : (a b : Bool) → (a || b) ≡ true → (a ≡ true) ⊎ (b ≡ true)
either true b h = inl refl
either false b h = inr h

abbrev IsFoundIn : (Finding → Bool) → Option Finding → Type 0
IsFoundIn is finding = (f : Finding) × (finding ≡ Some f) × (is f ≡ true)

found_with : (is : Finding → Bool) (before : List Finding) (finding : Option Finding)
    → list_any is (with_finding before finding) ≡ true → (list_any is before ≡ true) ⊎ IsFoundIn is finding
found_with is before None h = inl h
found_with is before (Some f) h =
    last (either (list_any is before) (is f || false) (sym (list_any-append is before (f ∷ [])) ∙ h))
  where
    last : (list_any is before ≡ true) ⊎ ((is f || false) ≡ true) → (list_any is before ≡ true) ⊎ IsFoundIn is (Some f)
    last (inl p) = inl p
    last (inr q) = inr (f, refl, elim (either (is f) false q) [ inl e ↦ e | inr n ↦ absurd cc ])

module _ (rows : List Restriction) where
  -- the finding is said of the row or of its text
  abbrev IsSaid : ℕ → Finding → Type 0
  IsSaid row f = IsSaidOfRow rows row (Some f) ⊎ IsSaidOfText rows row (Some f)

  said_of : (is : Finding → Bool) (count : ℕ) (findings : List Finding) → AreFindingsOf rows count findings
      → list_any is findings ≡ true → (row : ℕ) × (f : Finding) × (is f ≡ true) × IsSaid row f
  unfolding AreFindingsOf
  said_of is zero findings are h = absurd (none (ap (list_any is) (sym are) ∙ h))
    where
      none : list_any is [] ≡ true → ⊥
      none e = cc
  said_of is (suc row) findings are h =
      let before = are.0 in
      let all : list_any is (with_finding (with_finding before are.1) are.2) ≡ true = ap (list_any is) (sym are.6) ∙ h in
      elim (found_with is (with_finding before are.1) are.2 all) [
        | inl p ↦ elim (found_with is before are.1 p) [
          | inl q ↦ said_of is row before are.3 q
          | inr f ↦ (row, f.0, f.2, inl (subst (IsSaidOfRow rows row) f.1 are.4))
        ]
        | inr f ↦ (row, f.0, f.2, inr (subst (IsSaidOfText rows row) f.1 are.5))
      ]

  -- the row with the number of a finding, and a row beyond it
  abbrev IsStep : ℕ → ℕ → Type 0
  IsStep row number = (number ≡ row + 1) × (j : ℕ) × Beyond rows row j

  numbered : (a b : ℕ) → (a == b) ≡ true → a ≡ b
  numbered a b h = eqb-true a b h

  step_of : (row number : ℕ) (f : Finding) → IsSaid row f → says_either number f ≡ true → IsStep row number
  step_of row number (WithinRow n of) (inl is) h =
      let w = is.2.within in
      let e = numbered n number (elim (either (n == number) false h) [ inl p ↦ p | inr q ↦ absurd cc ]) in
      (sym e ∙ is.3, is.0, (w.inside, w.within, λ same. absurd (w.apart same)))
  step_of row number (WithinRow n of) (inr is) h = absurd is
  step_of row number (SameRow n of) (inl is) h =
      let same = is.2.alike in
      (sym (numbered n number h) ∙ is.3, is.0, (same.0, within_first (row_at rows is.0) (row_at rows row) same.2, λ s. is.1))
  step_of row number (SameRow n of) (inr is) h = absurd is
  step_of row number (SameMeaning n of) is h = absurd cc

  steps : (says : ℕ → Finding → Bool) → ((number : ℕ) (f : Finding) → says number f ≡ true → says_either number f ≡ true)
      → (findings : List Finding) → AreFindings rows findings → (i : ℕ) → list_any (says (i + 1)) findings ≡ true
      → (j : ℕ) × Beyond rows i j
  steps says also findings are i h =
      let s = said_of (says (i + 1)) (length rows) findings are h in
      let step = step_of s.0 (i + 1) s.1 s.3 (also (i + 1) s.1 s.2) in
      let same : s.0 ≡ i = let e = step.0 in omega (arith, e) in
      (step.1, subst (λ (n : ℕ). Beyond rows n step.1) same step.2)

-- ---- the rows that are left

module _ (P : Restriction → Type 0) where
  any_first : (r : Restriction) (rows : List Restriction) → P r → Any P (r ∷ rows)
  any_first r rows h = (0, r, omega arith, refl, h)

  any_later : (r : Restriction) (rows : List Restriction) → Any P rows → Any P (r ∷ rows)
  any_later r rows a = (suc a.0, a.1, (let l = a.2 in omega (arith, l)), a.3, a.4)

  any_split : (r : Restriction) (rows : List Restriction) → Any P (r ∷ rows) → P r ⊎ Any P rows
  any_split r rows (zero, x, lt, e, h) = inl (subst P (sym e) h)
  any_split r rows (suc k, x, lt, e, h) = inr (k, x, omega (arith, lt), e, h)

  any_row : (rows : List Restriction) → Any P rows → (i : ℕ) × (i < length rows) × P (row_at rows i)
  any_row rows a =
      let e : a.1 ≡ row_at rows a.0 = sym a.3 ∙ any_default rows a.0 a.1 nothing a.2 in (a.0, a.2, subst P e a.4)

  module _ (says : ℕ → Finding → Bool) (findings : List Finding) where
    abbrev rest : ℕ → List Restriction → List Restriction
    rest = without_from says findings

    when_out : (b : Bool) (r : Restriction) (rows : List Restriction) → b ≡ true → Any P rows → Any P (cond b rows (r ∷ rows))
    when_out true r rows e a = a
    when_out false r rows e a = absurd cc

    when_in : (b : Bool) (r : Restriction) (rows : List Restriction) → b ≡ false → Any P (r ∷ rows)
        → Any P (cond b rows (r ∷ rows))
    when_in true r rows e a = absurd cc
    when_in false r rows e a = a

    of_rest : (b : Bool) (r : Restriction) (left rows : List Restriction) → (Any P left → Any P rows)
        → Any P (cond b left (r ∷ left)) → Any P (r ∷ rows)
    of_rest true r left rows more a = any_later r rows (more a)
    of_rest false r left rows more a =
        elim (any_split r left a) [ inl h ↦ any_first r rows h | inr h ↦ any_later r rows (more h) ]

    pub of_file : (number : ℕ) (rows : List Restriction) → Any P (rest number rows) → Any P rows
    of_file number [] a = a
    of_file number (r ∷ rows) a =
        of_rest (list_any (says number) findings) r (rest (number + 1) rows) rows (of_file (number + 1) rows) a

    pub of_kept : (number : ℕ) (rows : List Restriction) (j : ℕ) → j < length rows
        → list_any (says (number + j)) findings ≡ false → P (row_at rows j) → Any P (rest number rows)
    of_kept number [] j lt out h = absurd (omega (arith, lt))
    of_kept number (r ∷ rows) zero lt out h =
        let same : number + 0 ≡ number = omega arith in
        when_in (list_any (says number) findings) r (rest (number + 1) rows)
        (ap (λ (n : ℕ). list_any (says n) findings) (sym same) ∙ out) (any_first r (rest (number + 1) rows) h)
    of_kept number (r ∷ rows) (suc j) lt out h =
        let same : number + 1 + j ≡ number + suc j = omega arith in
        let more = of_kept (number + 1) rows j (omega (arith, lt))
        (ap (λ (n : ℕ). list_any (says n) findings) same ∙ out) h in
        elim (cases_Bool (list_any (says number) findings)) [
          | inl p ↦ when_out (list_any (says number) findings) r (rest (number + 1) rows) p more
          | inr q ↦ when_in (list_any (says number) findings) r (rest (number + 1) rows) q
              (any_later r (rest (number + 1) rows) more)
        ]

-- ---- all together

close_same : (says : ℕ → Finding → Bool) → ((number : ℕ) (f : Finding) → says number f ≡ true → says_either number f ≡ true)
    → (rows : List Restriction) (findings : List Finding) → AreFindings rows findings
    → CloseSame rows (without says findings rows)
close_same says also rows findings are element direction vehicle second is_type in_range =
    let P = Closes element direction vehicle second in (
      (λ closed.
          let a = any_row P rows closed in
          let kept = kept_from rows (λ i. list_any (says (i + 1)) findings) (λ i. P (row_at rows i))
          (λ i inside out. steps rows says also findings are i out)
          (λ i j b c. record {
            names = sym b.1.element ∙ c.names;
            concerns = (b.1.closed direction c.concerns.0, b.1.vehicles vehicle is_type c.concerns.1);
            holds = b.1.seconds second in_range c.holds;
          }) a.0 a.1 a.2 in
          let same : kept.0 + 1 ≡ 1 + kept.0 = omega arith in
          of_kept P says findings 1 rows kept.0 kept.1 (ap (λ (n : ℕ). list_any (says n) findings) (sym same) ∙ kept.2) kept.3),
      of_file P says findings 1 rows,
    )

within_also : (number : ℕ) (f : Finding) → says_within number f ≡ true → says_either number f ≡ true
within_also number f h = rw h refl

same_also : (number : ℕ) (f : Finding) → says_same number f ≡ true → says_either number f ≡ true
same_also number (WithinRow n of) h = absurd cc
same_also number (SameRow n of) h = h
same_also number (SameMeaning n of) h = absurd cc

pub without_within : (rows : List Restriction) (findings : List Finding) → AreFindings rows findings
    → CloseSame rows (without says_within findings rows)
without_within = close_same says_within within_also

pub without_same : (rows : List Restriction) (findings : List Finding) → AreFindings rows findings
    → CloseSame rows (without says_same findings rows)
without_same = close_same says_same same_also

pub without_both : (rows : List Restriction) (findings : List Finding) → AreFindings rows findings
    → CloseSame rows (without says_either findings rows)
without_both = close_same says_either (λ number f h. h)
