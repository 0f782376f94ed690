-- A list of a known length, by its elements.
use Rattle.std.proofs.Common.{◌≡◌, ◌∙◌, refl, sym, ap, ap₂, subst, ℕ, zero, suc, List, [], ◌∷◌, ◌++◌, length, slice_index_or}
use Rattle.std.specs.Prelude.{drop, take}
use Rattle.gtd_moments.specs.Moments.{letter, with_letter}

-- some elements of a list, from a place on
abbrev pub spelled : ℕ → List ℕ → ℕ → List ℕ
spelled zero xs at = []
spelled (suc count) xs at = slice_index_or xs at 0 ∷ spelled count xs (suc at)

below : (count x : ℕ) (xs : List ℕ) (at : ℕ) → spelled count (x ∷ xs) (suc at) ≡ spelled count xs at
below zero x xs at = refl
below (suc count) x xs at = ap (λ (rest : List ℕ). slice_index_or xs at 0 ∷ rest) (below count x xs (suc at))

all_spelled : (xs : List ℕ) → spelled (length xs) xs 0 ≡ xs
all_spelled [] = refl
all_spelled (x ∷ xs) = ap (λ (rest : List ℕ). x ∷ rest) (below (length xs) x xs 0 ∙ all_spelled xs)

of_length : (count : ℕ) (xs : List ℕ) → length xs ≡ count → spelled count xs 0 ≡ xs
of_length count xs e = subst (λ (n : ℕ). spelled n xs 0 ≡ xs) e (all_spelled xs)

-- the text of a moment by its bytes
pub by_bytes : (minutes seconds : List ℕ) (byte : ℕ) → length minutes ≡ 16 → length seconds ≡ 3
    → letter (slice_index_or minutes 10 0) ≡ byte
    → (take 10 (spelled 16 minutes 0) ++ (byte ∷ drop 11 (spelled 16 minutes 0))) ++ spelled 3 seconds 0
    ≡ with_letter minutes ++ seconds
by_bytes minutes seconds byte sixteen three is =
    ap (λ (b : ℕ). (take 10 (spelled 16 minutes 0) ++ (b ∷ drop 11 (spelled 16 minutes 0))) ++ spelled 3 seconds 0) (sym is)
    ∙ ap₂ (λ (m s : List ℕ). with_letter m ++ s) (of_length 16 minutes sixteen) (of_length 3 seconds three)
