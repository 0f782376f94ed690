-- A listing stands for the types that it is of.
use Rattle.std.proofs.Common.{◌≡◌, ◌↔◌, ◌+◌, ◌<◌, ◌≤◌, ℕ, zero, suc, Bool, true, false, List, [], ◌∷◌, refl}
use Rattle.std.proofs.Common.{arith, length, get_or, IsTrue}
use Rattle.gtd_conditional_rows.specs.Flags.{count_true}

count-most : (xs : List Bool) → count_true xs ≤ length xs
count-most [] = omega arith
count-most (true ∷ xs) = let le = count-most xs in omega (arith, le)
count-most (false ∷ xs) = let le = count-most xs in omega (arith, le)

-- as many as there are: each one
count-all : (xs : List Bool) (i : ℕ) → length xs ≤ count_true xs → i < length xs → get_or xs i false ≡ true
count-all [] i all lt = absurd (omega (arith, lt))
count-all (true ∷ xs) zero all lt = refl
count-all (true ∷ xs) (suc i) all lt = count-all xs i (omega (arith, all)) (omega (arith, lt))
count-all (false ∷ xs) i all lt = absurd (let le = count-most xs in omega (arith, le, all))

-- all but the first one
count-but-first : (xs : List Bool) (i : ℕ) → length xs ≤ count_true xs + 1 → get_or xs 0 false ≡ false → 1 ≤ i → i < length xs
    → get_or xs i false ≡ true
count-but-first [] i all first some lt = absurd (omega (arith, lt))
count-but-first (true ∷ xs) i all first some lt = cc
count-but-first (false ∷ xs) zero all first some lt = absurd (omega (arith, some))
count-but-first (false ∷ xs) (suc i) all first some lt = count-all xs i (omega (arith, all)) (omega (arith, lt))

pub all_listed : (has : List Bool) (t : ℕ) → count_true has ≡ 99 → length has ≡ 100 → get_or has 0 false ≡ false → 1 ≤ t → t ≤ 99
    → get_or has t false ≡ true
all_listed has t count size first some most =
    let all : length has ≤ count_true has + 1 = omega (arith, count, size) in
    let lt : t < length has = omega (arith, size, most) in
    count-but-first has t all first some lt

pub others_listed : (b : Bool) (other : Bool) → (IsTrue other ↔ (IsTrue b → ⊥)) → (IsTrue other → ⊥) ↔ IsTrue b
others_listed true other same = ((λ x. refl), (λ x y. same.0 y x))
others_listed false other same = (
  (λ x. absurd (x (same.1 (λ e. let never : false ≡ true = e in cc)))),
  (λ x y. let never : false ≡ true = x in cc),
)
