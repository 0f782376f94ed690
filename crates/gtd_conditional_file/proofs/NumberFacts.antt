-- The vehicle types of a set, in ascending order.
use Rattle.std.proofs.Common.{◌≡◌, ◌<◌, ◌≤◌, ◌+◌, ◌⊎◌, arith, rules, get_or, inl, inr, length, length-append, subst, sym}
use Rattle.std.proofs.Common.{ℕ, suc, Bool, true, false, refl, List, [], ◌∷◌, ◌++◌}
use Rattle.std.specs.Prelude.{IsTrue, if◌then◌else◌}
use Rattle.std.specs.List.{Contains}
use Rattle.std.specs.List.Sorted.{IsStrictlyIncreasing}
use Rattle.std.proofs.lemmas.Grind.{common_steps}
use Rattle.std.proofs.lemmas.List.Elements.{Contains-append_left, Contains-get_or, Contains-push, Contains-push_cases}
use Rattle.gtd_rows.specs.declared.vehicles.Vehicles.TheVariants as vehicles
use Rattle.gtd_conditional_rows.specs.Flags.{count_true}
use Rattle.gtd_conditional_rows.specs.Listings.{AreOthers}
use Rattle.gtd_conditional_rows.specs.Types.{HasType, has_type}
use Rattle.gtd_conditional_rows.specs.declared.types.Types.{Types}
use Rattle.gtd_conditional_file.specs.Vehicles.{AreNumbers}

ascending_more : (xs : List ℕ) (y : ℕ) → IsStrictlyIncreasing xs → ((k : ℕ) → Contains xs k → k < y)
    → IsStrictlyIncreasing (xs ++ y ∷ [])
ascending_more xs y up low = λ k h.
    let long = length-append xs (y ∷ []) in
    let here : k < length xs = omega arith in
    let below = low (get_or xs k 0) (Contains-get_or xs k 0 here) in
    let next = up k in
    grind (arith, common_steps)

le_split : (t v : ℕ) → t ≤ v → (t < v) ⊎ (t ≡ v)
le_split t v h = grind (arith, common_steps)

-- the numbers below a bound of which this holds, in ascending order
pub record AreBelow (P : ℕ → Type 0) (bound : ℕ) (numbers : List ℕ) : Type 0 where
  pub ascending : IsStrictlyIncreasing numbers
  pub all : (t : ℕ) → 1 ≤ t → t < bound → P t → Contains numbers t
  pub only : (t : ℕ) → Contains numbers t → (1 ≤ t) × (t < bound) × P t

module _ (P : ℕ → Type 0) where
  pub none_below : AreBelow P 1 []
  none_below = record {
    ascending = λ k h. absurd (omega arith);
    all = λ t first last has. absurd (omega arith);
    only = λ t h. absurd (let few = h.1 in omega arith);
  }

  pub below_with : (v : ℕ) (numbers : List ℕ) → 1 ≤ v → P v → AreBelow P v numbers → AreBelow P (v + 1) (numbers ++ v ∷ [])
  below_with v numbers first has are = record {
    ascending = ascending_more numbers v are.ascending (λ k h. (are.only k h).1);
    all = λ t low high holds.
        elim (le_split t v (let h = high in omega arith)) [
          | inl less ↦ Contains-append_left numbers (v ∷ []) t (are.all t low less holds)
          | inr same ↦ subst (λ (n : ℕ). Contains (numbers ++ v ∷ []) n) (sym same) (Contains-push numbers v)
        ];
    only = λ t h. elim (Contains-push_cases numbers v t h) [
      | inl before ↦ let o = are.only t before in (o.0, (let last = o.1 in omega arith), o.2)
      | inr same ↦ (subst (λ (n : ℕ). 1 ≤ n) same first, (let s = same in omega arith), subst P same has)
    ];
  }

  pub below_without : (v : ℕ) (numbers : List ℕ) → (P v → ⊥) → AreBelow P v numbers → AreBelow P (v + 1) numbers
  below_without v numbers lacks are = record {
    ascending = are.ascending;
    all = λ t low high holds.
        elim (le_split t v (let h = high in omega arith)) [
          | inl less ↦ are.all t low less holds
          | inr same ↦ absurd (lacks (subst P same holds))
        ];
    only = λ t h. let o = are.only t h in (o.0, (let last = o.1 in omega arith), o.2);
  }

  below_if : (b : Bool) (v : ℕ) (numbers new : List ℕ) → 1 ≤ v → (IsTrue b → P v) → (P v → IsTrue b)
      → new ≡ (if b then numbers ++ v ∷ [] else numbers) → AreBelow P v numbers → AreBelow P (v + 1) new
  below_if true v numbers new first does has is are = rw is (below_with v numbers first (does (search rules)) are)
  below_if false v numbers new first does has is are = rw is (below_without v numbers (λ h. absurd (search (rules, has h))) are)

-- one number more, if it is of a type
pub below_more : (types : Types) (v : ℕ) (numbers new : List ℕ) → 1 ≤ v
    → new ≡ (if has_type types v then numbers ++ v ∷ [] else numbers) → AreBelow (HasType types) v numbers
    → AreBelow (HasType types) (v + 1) new
below_more types v numbers new first is are =
    below_if (HasType types) (has_type types v) v numbers new first (λ h. h) (λ h. h) is are

pub are_numbers : (types : Types) (numbers : List ℕ) → AreBelow (HasType types) 100 numbers → AreNumbers types numbers
are_numbers types numbers are = record {
  ascending = are.ascending;
  same = λ t v. ((λ h. (are.only t h).2), (λ has. are.all t v.0 (let last = v.1 in omega arith) has));
  vehicles = λ t h. let o = are.only t h in (o.0, (let last = o.1 in omega arith));
}

-- ---- the types that a list leaves out

all_true : (xs : List Bool) → ((i : ℕ) → i < length xs → get_or xs i false ≡ true) → count_true xs ≡ length xs
all_true [] all = refl
all_true (true ∷ xs) all = let rest = all_true xs (λ i lt. all (suc i) (omega (arith, lt))) in omega (arith, rest)
all_true (false ∷ xs) all = absurd (let never : false ≡ true = all 0 (omega arith) in cc)

all_had : (xs : List Bool) → length xs ≡ 100 → get_or xs 0 false ≡ false
    → ((t : ℕ) → 1 ≤ t → t ≤ 99 → get_or xs t false ≡ true) → count_true xs ≡ 99
all_had [] size first all = absurd (omega (arith, size))
all_had (true ∷ xs) size first all = absurd (let never : true ≡ false = first in cc)
all_had (false ∷ xs) size first all =
    let rest = all_true xs (λ i lt. all (suc i) (omega arith) (omega (arith, lt, size))) in
    omega (arith, rest, size)

had : (b : Bool) → ((IsTrue b → ⊥) → ⊥) → b ≡ true
had true lacks = refl
had false lacks = absurd (lacks (λ e. let never : false ≡ true = e in cc))

-- a set without one of the 99 types leaves some out
pub some_left_out : (types listed : Types) (codes : List ℕ) → length types.has ≡ 100 → get_or types.has 0 false ≡ false
    → (count_true types.has ≡ 99 → ⊥) → AreOthers types listed → AreNumbers listed codes
    → vehicles.AllBut codes ≡ vehicles.AllBut [] → ⊥
some_left_out types listed codes size first more others numbers none =
    let empty : codes ≡ [] = cc in
    more (all_had types.has size first (λ t low high. had (get_or types.has t false) (λ lacks.
    let h = subst (λ (c : List ℕ). Contains c t) empty ((numbers.same t (low, high)).1 ((others t (low, high)).1 lacks)) in
    let few = h.1 in omega arith)))
