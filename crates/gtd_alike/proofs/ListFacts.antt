-- Lists of numbers that grow at their end.
use Rattle.std.proofs.Common.{◌≡◌, refl, subst, arith, ◌<◌, ℕ, zero, suc, List, [], ◌∷◌, ◌++◌, length, get_or}
use Rattle.std.proofs.Common.{length-append}
use Rattle.gtd_records.specs.facts.IndexFacts.{by_le}

at_end : (xs : List ℕ) (y k : ℕ) → k ≡ length xs → get_or (xs ++ y ∷ []) k 0 ≡ y
at_end [] y zero e = refl
at_end [] y (suc k) e = absurd (omega (arith, e))
at_end (x ∷ xs) y zero e = absurd (omega (arith, e))
at_end (x ∷ xs) y (suc k) e = at_end xs y k (omega (arith, e))

before_end : (xs : List ℕ) (y k : ℕ) → k < length xs → get_or (xs ++ y ∷ []) k 0 ≡ get_or xs k 0
before_end [] y k h = absurd (omega (arith, h))
before_end (x ∷ xs) y zero h = refl
before_end (x ∷ xs) y (suc k) h = before_end xs y k (omega (arith, h))

-- what holds of each place of a list and its number, with one number more
pub all_more : (P : ℕ → ℕ → Type 0) (xs : List ℕ) (y n : ℕ) → n ≡ length xs → P n y
    → ((k : ℕ) → k < length xs → P k (get_or xs k 0))
    → (k : ℕ) → k < length (xs ++ y ∷ []) → P k (get_or (xs ++ y ∷ []) k 0)
all_more P xs y n e last all k h =
    let l = length-append xs (y ∷ []) in
    by_le {P = P k (get_or (xs ++ y ∷ []) k 0)} (length xs) k
    (λ ge.
    let at : k ≡ length xs = omega (arith, l, h, ge) in
    let same : n ≡ k = omega (arith, e, at) in
    rw (at_end xs y k at) (subst (λ (i : ℕ). P i y) same last))
    (λ lt. rw (before_end xs y k lt) (all k lt))
