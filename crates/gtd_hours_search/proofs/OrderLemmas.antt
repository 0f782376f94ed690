-- Kinds in order are those of a rule that can be written.
use Rattle.std.proofs.Common.{◌≡◌, ℕ, ◌+◌, ◌<◌, ◌≤◌, Bool, true, false, cond, List, [], ◌∷◌, ◌++◌}
use Rattle.std.proofs.Common.{append_assoc, arith, inl, inr, refl, sym, ap, subst, ◌∙◌}
use Rattle.std.specs.Prelude.{◌==◌, ◌&&◌, nat_lt}
use Rattle.std.specs.List.{list_all}
use Rattle.std.proofs.lemmas.Bool.{cases_eq, eqb-true}
use Rattle.std.proofs.lemmas.Bool.Decides.{nat_tests}
use Rattle.std.proofs.lemmas.List.{append-nil}
use Rattle.gtd_hours.specs.declared.hours.Kind.{Kind}
use Rattle.gtd_hours.specs.declared.hours.Rule.{Rule}
use Rattle.gtd_hours.specs.declared.hours.Selector.{Selector}
use Rattle.gtd_hours.specs.declared.hours.Selector.TheVariants as selector
use Rattle.gtd_hours.specs.Writable.{IsWritableRule, is_fallback, is_month_days, is_weekdays, is_weeks, is_years, kind_if}
use Rattle.gtd_hours.specs.Writable.{selectors}
use Rattle.gtd_hours_search.specs.Order.{InOrder, have_place, kind_place, place_of}

-- ---- the kinds of a place, and those behind it

-- The selectors of a place, and the other kinds.
record Peeled (place : ℕ) (kinds : List Kind) : Type 0 where
  xs : List Selector
  rest : List Kind
  are : have_place place xs ≡ true
  split : selectors kinds ≡ kind_if xs ++ selectors rest
  later : InOrder place rest

place_tested : (b : Bool) (n place : ℕ) → cond b n 0 ≡ place → 0 < place → (b ≡ true) × (n ≡ place)
place_tested true n place e h = (refl, e)
place_tested false n place e h = absurd (omega (arith, e, h))

both : (a b : Bool) → a ≡ true → b ≡ true → (a && b) ≡ true
both true b e f = f
both false b e f = absurd cc

same_place : (n : ℕ) → (n == n) ≡ true
same_place n = grind (arith, nat_tests)

all_have : (xs : List Selector) (place : ℕ) → kind_place xs ≡ place → 0 < place → have_place place xs ≡ true
all_have [] place e h = refl
all_have (x ∷ xs) place e h =
    let t = place_tested (have_place (place_of x) xs) (place_of x) place e h in
    subst (λ (n : ℕ). have_place n (x ∷ xs) ≡ true) t.1 (both (place_of x == place_of x) (have_place (place_of x) xs)
    (same_place (place_of x)) t.0)

one_kind : (xs : List Selector) (xss : List (List Selector)) → 0 < kind_place xs → xs ∷ xss ≡ kind_if xs ++ xss
one_kind [] xss h = absurd (omega (arith, h))
one_kind (x ∷ xs) xss h = refl

peel : (n : ℕ) (kinds : List Kind) → InOrder n kinds → Peeled (n + 1) kinds
peel n [] h = record { xs = []; rest = []; are = refl; split = refl; later = record {} }
peel n (kind ∷ kinds) h = elim (cases_eq (kind_place kind.selectors.items) (n + 1)) [
  | inl same ↦ record {
    xs = kind.selectors.items;
    rest = kinds;
    are = all_have kind.selectors.items (n + 1) same (omega arith);
    split = one_kind kind.selectors.items (selectors kinds) (omega (arith, same));
    later = subst (λ (m : ℕ). InOrder m kinds) same h.1;
  }
  | inr other ↦ record {
    xs = [];
    rest = kind ∷ kinds;
    are = refl;
    split = refl;
    later = (omega (arith, other, h.0), h.1);
  }
]

-- ---- places

four_or_none : (b : Bool) (n : ℕ) → n ≤ 4 → cond b n 0 ≤ 4
four_or_none true n h = h
four_or_none false n h = omega arith

four_places : (x : Selector) → place_of x ≤ 4
four_places (selector.Years x) = omega arith
four_places (selector.Months x) = omega arith
four_places (selector.Dates x) = omega arith
four_places (selector.Dated x) = omega arith
four_places (selector.Weeks x) = omega arith
four_places (selector.Weekdays x) = omega arith
four_places (selector.Nth x) = omega arith
four_places (selector.NthBack x) = omega arith
four_places (selector.Moved x) = four_or_none (nat_lt 0 x.days) 4 (omega arith)
four_places (selector.Moving x) = omega arith
four_places (selector.Yearly x) = omega arith

four_kinds : (xs : List Selector) → kind_place xs ≤ 4
four_kinds [] = omega arith
four_kinds (x ∷ xs) = four_or_none (have_place (place_of x) xs) (place_of x) (four_places x)

no_more : (kinds : List Kind) → InOrder 4 kinds → selectors kinds ≡ []
no_more [] h = refl
no_more (kind ∷ kinds) h = absurd (omega (arith, h.0, four_kinds kind.selectors.items))

left : (a b : Bool) → (a && b) ≡ true → a ≡ true
left true b e = refl
left false b e = absurd cc

right : (a b : Bool) → (a && b) ≡ true → b ≡ true
right true b e = e
right false b e = absurd cc

all_such : (place : ℕ) (such : Selector → Bool) → ((x : Selector) → place_of x ≡ place → such x ≡ true) → (xs : List Selector)
    → have_place place xs ≡ true → list_all such xs ≡ true
all_such place such each [] h = refl
all_such place such each (x ∷ xs) h =
    both (such x) (list_all such xs)
    (each x (eqb-true (place_of x) place (left (place_of x == place) (have_place place xs) h)))
    (all_such place such each xs (right (place_of x == place) (have_place place xs) h))

four_not : (b : Bool) (n : ℕ) → 0 < n → n < 4 → cond b 4 0 ≡ n → ⊥
four_not true n low high e = omega (arith, low, high, e)
four_not false n low high e = omega (arith, low, high, e)

first_years : (x : Selector) → place_of x ≡ 1 → is_years x ≡ true
first_years (selector.Years x) e = refl
first_years (selector.Moved x) e = absurd (four_not (nat_lt 0 x.days) 1 (omega arith) (omega arith) e)
first_years x e = absurd (omega (arith, e))

second_month_days : (x : Selector) → place_of x ≡ 2 → is_month_days x ≡ true
second_month_days (selector.Months x) e = refl
second_month_days (selector.Dates x) e = refl
second_month_days (selector.Dated x) e = refl
second_month_days (selector.Moved x) e = absurd (four_not (nat_lt 0 x.days) 2 (omega arith) (omega arith) e)
second_month_days x e = absurd (omega (arith, e))

third_weeks : (x : Selector) → place_of x ≡ 3 → is_weeks x ≡ true
third_weeks (selector.Weeks x) e = refl
third_weeks (selector.Moved x) e = absurd (four_not (nat_lt 0 x.days) 3 (omega arith) (omega arith) e)
third_weeks x e = absurd (omega (arith, e))

fourth_weekdays : (x : Selector) → place_of x ≡ 4 → is_weekdays x ≡ true
fourth_weekdays (selector.Weekdays x) e = refl
fourth_weekdays (selector.Nth x) e = refl
fourth_weekdays (selector.NthBack x) e = refl
fourth_weekdays (selector.Moved x) e = (place_tested (nat_lt 0 x.days) 4 4 e (omega arith)).0
fourth_weekdays x e = absurd (omega (arith, e))

left_nested : (k a b c d : List (List Selector)) (e : List (List Selector)) → k ≡ a ++ (b ++ (c ++ (d ++ e))) → e ≡ []
    → k ≡ a ++ b ++ c ++ d
left_nested k a b c d e h none =
    h ∙ ap (λ (l : List (List Selector)). a ++ (b ++ (c ++ (d ++ l)))) none
    ∙ ap (λ (l : List (List Selector)). a ++ (b ++ (c ++ l))) (append-nil d)
    ∙ ap (λ (l : List (List Selector)). a ++ l) (sym (append_assoc b c d))
    ∙ sym (append_assoc a (b ++ c) d) ∙ ap (λ (l : List (List Selector)). l ++ d) (sym (append_assoc a b c))

pub in_order : (rule : Rule) → is_fallback rule.link ≡ false → InOrder 0 rule.kinds.items → IsWritableRule rule
in_order rule no_fallback h =
    let a = peel 0 rule.kinds.items h in
    let b = peel 1 a.rest a.later in
    let c = peel 2 b.rest b.later in
    let d = peel 3 c.rest c.later in
    record {
      no_fallback = no_fallback;
      years = a.xs;
      month_days = b.xs;
      weeks = c.xs;
      weekdays = d.xs;
      are_years = all_such 1 is_years first_years a.xs a.are;
      are_month_days = all_such 2 is_month_days second_month_days b.xs b.are;
      are_weeks = all_such 3 is_weeks third_weeks c.xs c.are;
      are_weekdays = all_such 4 is_weekdays fourth_weekdays d.xs d.are;
      kinds = left_nested (selectors rule.kinds.items) (kind_if a.xs) (kind_if b.xs) (kind_if c.xs) (kind_if d.xs)
          (selectors d.rest) (a.split ∙ ap (λ (l : List (List Selector)). kind_if a.xs ++ l) (b.split
          ∙ ap (λ (l : List (List Selector)). kind_if b.xs ++ l) (c.split
          ∙ ap (λ (l : List (List Selector)). kind_if c.xs ++ l) d.split))) (no_more d.rest d.later);
    }
