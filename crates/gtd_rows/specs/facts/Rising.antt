-- Two lists of ascending numbers are the same list if they have the same members.
use Rattle.std.proofs.Common.{◌≡◌, ◌∙◌, sym, ap, refl, ◌<◌, ◌⊎◌, inl, inr, ℕ, zero, suc, List, [], ◌∷◌, length, arith}
use Rattle.std.specs.Prelude.{slice_index_or}
use Rattle.std.specs.List.{Contains}
use Rattle.std.specs.List.{AllByRecursion}
use Rattle.std.specs.List.Sorted.{IsStrictlyIncreasing, IsStrictlySortedBy}
use Rattle.std.specs.Ordering.{nat_cmp}
use Rattle.std.specs.declared.cmp.Ordering.TheVariants.{Less}
use Rattle.std.proofs.lemmas.Bool.Decides.{nat_tests}
use Rattle.std.proofs.lemmas.Map.Keys.{sorted_from_strictly_increasing}

abbrev pub AllAbove : ℕ → List ℕ → Type 0
AllAbove n [] = Unit {0}
AllAbove n (x ∷ xs) = (n < x) × AllAbove n xs

abbrev pub Rises : List ℕ → Type 0
Rises [] = Unit {0}
Rises (x ∷ xs) = AllAbove x xs × Rises xs

abbrev pub In : ℕ → List ℕ → Type 0
In n [] = ⊥
In n (x ∷ xs) = (x ≡ n) ⊎ In n xs

less : (a b : ℕ) → nat_cmp a b ≡ Less → a < b
less a b e = grind (arith, nat_tests)

all_above : (n : ℕ) (xs : List ℕ) → AllByRecursion (λ y. nat_cmp n y ≡ Less) xs → AllAbove n xs
all_above n [] a = tt
all_above n (x ∷ xs) a = (less n x a.0, all_above n xs a.1)

rises : (xs : List ℕ) → IsStrictlySortedBy nat_cmp xs → Rises xs
unfolding IsStrictlySortedBy
rises [] s = tt
rises (x ∷ xs) s = (all_above x xs s.0, rises xs s.1)

above : (n m : ℕ) (xs : List ℕ) → AllAbove n xs → In m xs → n < m
above n m [] a i = absurd i
above n m (x ∷ xs) a (inl e) = omega (arith, a.0, e)
above n m (x ∷ xs) a (inr i) = above n m xs a.1 i

pub to_in : (n : ℕ) (xs : List ℕ) (k : ℕ) → k < length xs → slice_index_or xs k n ≡ n → In n xs
to_in n [] k h e = absurd (omega arith)
to_in n (x ∷ xs) zero h e = inl e
to_in n (x ∷ xs) (suc k) h e = inr (to_in n xs k (omega arith) e)

pub from_in : (n : ℕ) (xs : List ℕ) → In n xs → Contains xs n
from_in n [] i = absurd i
from_in n (x ∷ xs) (inl e) = (0, omega arith, e)
from_in n (x ∷ xs) (inr i) = let c = from_in n xs i in (suc c.0, (let l = c.1 in omega arith), c.2)

heads : (x y : ℕ) (xs ys : List ℕ) → AllAbove x xs → AllAbove y ys → In x (y ∷ ys) → In y (x ∷ xs) → x ≡ y
heads x y xs ys a b (inl e) i = sym e
heads x y xs ys a b (inr h) (inl e) = e
heads x y xs ys a b (inr h) (inr i) = let p = above y x ys b h in let q = above x y xs a i in absurd (omega (arith, p, q))

tails : (x y : ℕ) (xs ys : List ℕ) → x ≡ y → AllAbove x xs → ((n : ℕ) → In n (x ∷ xs) → In n (y ∷ ys)) → (n : ℕ) → In n xs
    → In n ys
tails x y xs ys e a into n i =
    elim (into n (inr i)) [
      | inl s ↦ (let p = above x n xs a i in absurd (omega (arith, p, s, e)))
      | inr j ↦ j
    ]

one_rising : (xs ys : List ℕ) → Rises xs → Rises ys → ((n : ℕ) → In n xs → In n ys) → ((n : ℕ) → In n ys → In n xs) → xs ≡ ys
one_rising [] [] r s f g = refl
one_rising [] (y ∷ ys) r s f g = absurd (g y (inl refl))
one_rising (x ∷ xs) [] r s f g = absurd (f x (inl refl))
one_rising (x ∷ xs) (y ∷ ys) r s f g =
    let e = heads x y xs ys r.0 s.0 (f x (inl refl)) (g y (inl refl)) in
    ap (λ (n : ℕ). n ∷ xs) e
    ∙ ap (λ (l : List ℕ). y ∷ l) (one_rising xs ys r.1 s.1 (tails x y xs ys e r.0 f) (tails y x ys xs (sym e) s.0 g))

pub one_list : (xs ys : List ℕ) → IsStrictlyIncreasing xs → IsStrictlyIncreasing ys → ((n : ℕ) → Contains xs n → Contains ys n)
    → ((n : ℕ) → Contains ys n → Contains xs n) → xs ≡ ys
one_list xs ys r s f g =
    one_rising xs ys (rises xs (sorted_from_strictly_increasing xs r)) (rises ys (sorted_from_strictly_increasing ys s))
    (λ n i. let c = f n (from_in n xs i) in to_in n ys c.0 c.1 c.2)
    (λ n i. let c = g n (from_in n ys i) in to_in n xs c.0 c.1 c.2)
