-- Lists that grow at their end.
use Rattle.std.proofs.Common.{◌≡◌, refl, sym, subst, arith, ◌<◌, ℕ, zero, suc, List, [], ◌∷◌, ◌++◌, length}
use Rattle.std.proofs.Common.{length-append}
use Rattle.std.specs.Prelude.{slice_index_or}
use Rattle.gtd_records.specs.facts.IndexFacts.{by_le}

last_at : {X : Type 0} (xs : List X) (y d : X) (k : ℕ) → k ≡ length xs → slice_index_or (xs ++ y ∷ []) k d ≡ y
last_at [] y d zero e = refl
last_at [] y d (suc k) e = absurd (omega (arith, e))
last_at (x ∷ xs) y d zero e = absurd (omega (arith, e))
last_at (x ∷ xs) y d (suc k) e = last_at xs y d k (omega (arith, e))

before_at : {X : Type 0} (xs : List X) (y d : X) (k : ℕ) → k < length xs
    → slice_index_or (xs ++ y ∷ []) k d ≡ slice_index_or xs k d
before_at [] y d k h = absurd (omega (arith, h))
before_at (x ∷ xs) y d zero h = refl
before_at (x ∷ xs) y d (suc k) h = before_at xs y d k (omega (arith, h))

-- what holds of each place of a list and what stands there, with one more
pub each_more : {X : Type 0} (P : ℕ → X → Type 0) (xs : List X) (y d : X) (n : ℕ) → length xs ≡ n → P n y
    → ((k : ℕ) → k < length xs → P k (slice_index_or xs k d))
    → (k : ℕ) → k < length (xs ++ y ∷ []) → P k (slice_index_or (xs ++ y ∷ []) k d)
each_more P xs y d n e last all k h =
    let l = length-append xs (y ∷ []) in
    by_le {P = P k (slice_index_or (xs ++ y ∷ []) k d)} (length xs) k
    (λ ge.
    let at : k ≡ length xs = omega (arith, l, h, ge) in
    let same : n ≡ k = omega (arith, e, at) in
    subst (P k) (sym (last_at xs y d k at)) (subst (λ (i : ℕ). P i y) same last))
    (λ lt. subst (P k) (sym (before_at xs y d k lt)) (all k lt))
