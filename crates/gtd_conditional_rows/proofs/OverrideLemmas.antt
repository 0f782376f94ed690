-- Steps that later ones override do nothing.
use Rattle.std.proofs.Common.{◌≡◌, ◌<◌, ◌≤◌, ◌+◌, ◌-◌, ◌⊎◌, ◌∷◌, ◌++◌, ◌∙◌, ℕ, List, None, Bool, false, drop, take, set}
use Rattle.std.proofs.Common.{get_or, length, refl, sym, ap, arith, inl, inr, if◌then◌else◌}
use Rattle.std.specs.List.{swap}
use Rattle.std.proofs.lemmas.List.{append-nil, drop-set, drop-set-lt, drop_all, drop_more, get_or-take, length-set, take-set-le}
use Rattle.std.proofs.lemmas.List.{take-take, take_all, take_rest}
use Rattle.std.proofs.lemmas.List.Edits.{length-swap, swap_is}
use Rattle.gtd_conditional_rows.specs.Overrides.{AreEffective}
use Rattle.gtd_conditional_rows.specs.Times.{Times, said, times_after, times_by, times_of}
use Rattle.gtd_conditional_rows.specs.Types.{HasType, IsVehicle, has_type}
use Rattle.gtd_conditional_rows.specs.declared.step.Step.{Step}
use Rattle.gtd_conditional_rows.specs.declared.types.Types.{Types}
use Rattle.gtd_conditional_rows.proofs.SizeLemmas.{whole-step}
use Rattle.gtd_conditional_rows.proofs.TypeLemmas.{either}

-- ---- where they stand

-- the step at a place is that of all steps, since those before the next place are
step-at : (all steps : List Step) (p : ℕ) (s : Step) → p < length steps → length steps ≡ length all
    → take (p + 1) steps ≡ take (p + 1) all → s ≡ get_or steps p s → drop p all ≡ s ∷ drop (p + 1) all
step-at all steps p s lt long front is =
    let before : p < p + 1 = omega arith in
    let inside : p < length all = omega (arith, lt, long) in
    let same : get_or all p s ≡ s =
    sym (get_or-take (p + 1) all p s before) ∙ ap (λ (l : List Step). get_or l p s) (sym front)
    ∙ get_or-take (p + 1) steps p s before ∙ sym is in
    drop_more all p s inside ∙ ap (λ (x : Step). x ∷ drop (p + 1) all) same

fewer : (xs ys : List Step) (p : ℕ) → take (p + 1) xs ≡ take (p + 1) ys → take p xs ≡ take p ys
fewer xs ys p e =
    let le : p ≤ p + 1 = omega arith in
    sym (take-take p (p + 1) xs le) ∙ ap (λ (l : List Step). take p l) e ∙ take-take p (p + 1) ys le

module _ (xs : List Step) (p k : ℕ) (s : Step) (le : p ≤ k) (lt : k < length xs) where
  swapped : set (set xs p (get_or xs k s)) k (get_or xs p s) ≡ swap xs p k
  swapped = swap_is xs p k s (omega (arith, le, lt)) lt

  -- the step has come to the later place, before those that were behind it
  swap-drop : s ≡ get_or xs p s → drop k (swap xs p k) ≡ s ∷ drop (k + 1) xs
  swap-drop is =
      let long = length-set xs p (get_or xs k s) in
      let inside : k < length (set xs p (get_or xs k s)) = omega (arith, lt, long) in
      let below : p < k + 1 = omega (arith, le) in
      ap (λ (l : List Step). drop k l) (sym swapped)
      ∙ drop-set (set xs p (get_or xs k s)) k (get_or xs p s) inside
      ∙ ap (λ (l : List Step). get_or xs p s ∷ l) (drop-set-lt (k + 1) xs p (get_or xs k s) below)
      ∙ ap (λ (x : Step). x ∷ drop (k + 1) xs) (sym is)

  -- and those before its place stay
  swap-take : take p (swap xs p k) ≡ take p xs
  swap-take =
      let own : p ≤ p = omega arith in
      ap (λ (l : List Step). take p l) (sym swapped)
      ∙ take-set-le p (set xs p (get_or xs k s)) k (get_or xs p s) le
      ∙ take-set-le p xs p (get_or xs k s) own

-- ---- what they do

-- a step that does not apply to a type
by-none : (step : Step) (t : ℕ) (times : Times) → has_type step.types t ≡ false → times_by step t times ≡ times
by-none step t times e =
    ap (λ (b : Bool). if b then said step.access step.hours times else times) e

module _ (all steps : List Step) (p first : ℕ) (settled : Types) (s : Step) (lt : p < first)
    (so : AreEffective all steps (p + 1) first settled) (is : s ≡ get_or steps p s) where
  whole : drop p all ≡ s ∷ drop (p + 1) all
  whole =
      let inside = so.inside in
      step-at all steps p s (omega (arith, lt, inside)) so.long so.front is

  -- the steps from it on
  after-it : (t : ℕ) (times : Times) → IsVehicle t
      → times_after (drop first steps) t (times_by s t times) ≡ times_after (drop p all) t times
  after-it t times v =
      so.same t (times_by s t times) v ∙ ap (λ (l : List Step). times_after l t times) (sym whole)

  -- it is overridden
  pub passed-over : ((t : ℕ) → IsVehicle t → HasType s.types t → HasType settled t) → AreEffective all steps p first settled
  passed-over over = record {
    before = omega (arith, lt);
    inside = so.inside;
    long = so.long;
    front = fewer steps all p so.front;
    same = λ t times v. elim (either (has_type s.types t)) [
      | inl has ↦ so.settles t times (times_by s t times) v (over t v has) ∙ after-it t times v
      | inr none ↦
          ap (λ (x : Times). times_after (drop first steps) t x) (sym (by-none s t times none)) ∙ after-it t times v
    ];
    settles = so.settles;
  }

  -- it is kept
  pub is-kept : (k : ℕ) (after : List Step) (now : Types) → first ≡ k + 1 → after ≡ swap steps p k
      → ((t : ℕ) → IsVehicle t → HasType now t → HasType settled t ⊎ ((s.hours ≡ None) × HasType s.types t))
      → AreEffective all after p k now
  is-kept k after now next made settles =
      let inside = so.inside in
      let le : p ≤ k = omega (arith, lt, next) in
      let last : k < length steps = omega (arith, inside, next) in
      let long = length-swap steps p k in
      let behind : drop k (swap steps p k) ≡ s ∷ drop first steps =
      swap-drop steps p k s le last is ∙ ap (λ (n : ℕ). s ∷ drop n steps) (sym next) in
      rw made (record {
        before = le;
        inside = omega (arith, last, long);
        long = long ∙ so.long;
        front = swap-take steps p k s le last ∙ fewer steps all p so.front;
        same = λ t times v. ap (λ (l : List Step). times_after l t times) behind ∙ after-it t times v;
        settles = λ t one other v has.
            ap (λ (l : List Step). times_after l t one) behind
            ∙ (elim (settles t v has) [
              | inl before ↦ so.settles t (times_by s t one) (times_by s t other) v before
              | inr x ↦
                  ap (λ (times : Times). times_after (drop first steps) t times) (whole-step s t one other x.0 x.1)
            ])
            ∙ ap (λ (l : List Step). times_after l t other) (sym behind);
      })

-- before the first step is looked at
pub none-yet : (all : List Step) (n : ℕ) (settled : Types) → n ≡ length all → ((t : ℕ) → HasType settled t → ⊥)
    → AreEffective all all n n settled
none-yet all n settled e none = record {
  before = omega arith;
  inside = omega (arith, e);
  long = refl;
  front = refl;
  same = λ t times v. refl;
  settles = λ t one other v has. absurd (none t has);
}

-- ---- in a list that is lent

written-back : (items near : List Step) (n : ℕ) → length near ≡ length items → length near ≤ n
    → take n (near ++ drop (length near) items) ≡ near
written-back items near n long le =
    let few : length items ≤ length near = omega (arith, long) in
    ap (λ (l : List Step). take n (near ++ l)) (drop_all (length near) items few)
    ∙ ap (λ (l : List Step). take n l) (append-nil near) ∙ take_all n near le

-- what is left at the end of a list that was lent does the same
pub left-same : (items near given left : List Step) (n first : ℕ) → length near ≡ length items → length near ≤ n → given ≡ items
    → left ≡ take n (near ++ drop (length near) items)
    → ((t : ℕ) → IsVehicle t → times_of (drop first near) t ≡ times_of given t)
    → (t : ℕ) → IsVehicle t → times_of (take (length left - first) (drop first left)) t ≡ times_of items t
left-same items near given left n first long le is made same t v =
    let whole : left ≡ near = made ∙ written-back items near n long le in
    rw (whole, take_rest near first) (same t v ∙ ap (λ (l : List Step). times_of l t) is)
