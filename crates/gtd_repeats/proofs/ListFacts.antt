-- Lists that grow at their end.
use Rattle.std.proofs.Common.{◌≡◌, ap, refl, subst, arith, ◌<◌, ◌≤◌, ℕ, zero, suc, List, [], ◌∷◌, ◌++◌, length, get_or}
use Rattle.std.proofs.Common.{length-append, Option, None}
use Rattle.std.specs.Prelude.{slice_index_or, slice_set}

pub by_lt : {P : Type 0} (a b : ℕ) → (a < b → P) → (b ≤ a → P) → P
by_lt zero zero f g = g (omega arith)
by_lt zero (suc b) f g = f (omega arith)
by_lt (suc a) zero f g = g (omega arith)
by_lt (suc a) (suc b) f g = by_lt a b (λ h. f (omega arith)) (λ h. g (omega arith))

at_end : (xs : List ℕ) (y k : ℕ) → k ≡ length xs → get_or (xs ++ y ∷ []) k 0 ≡ y
at_end [] y zero e = refl
at_end [] y (suc k) e = absurd (omega (arith, e))
at_end (x ∷ xs) y zero e = absurd (omega (arith, e))
at_end (x ∷ xs) y (suc k) e = at_end xs y k (omega (arith, e))

before_end : (xs : List ℕ) (y k : ℕ) → k < length xs → get_or (xs ++ y ∷ []) k 0 ≡ get_or xs k 0
before_end [] y k h = absurd (omega (arith, h))
before_end (x ∷ xs) y zero h = refl
before_end (x ∷ xs) y (suc k) h = before_end xs y k (omega (arith, h))

-- what holds of each place of a list and its number, with one number more
pub all_more : (P : ℕ → ℕ → Type 0) (xs : List ℕ) (y n : ℕ) → n ≡ length xs → P n y
    → ((k : ℕ) → k < length xs → P k (get_or xs k 0))
    → (k : ℕ) → k < length (xs ++ y ∷ []) → P k (get_or (xs ++ y ∷ []) k 0)
all_more P xs y n e last all k h =
    let l = length-append xs (y ∷ []) in
    by_lt {P = P k (get_or (xs ++ y ∷ []) k 0)} k (length xs)
    (λ lt. rw (before_end xs y k lt) (all k lt))
    (λ ge.
    let at : k ≡ length xs = omega (arith, l, h, ge) in
    let same : n ≡ k = omega (arith, e, at) in
    rw (at_end xs y k at) (subst (λ (i : ℕ). P i y) same last))

-- a value that was written is there
pub set_here : {X : Type 0} (xs : List X) (k : ℕ) (x d : X) → k < length xs → slice_index_or (slice_set xs k x) k d ≡ x
set_here [] k x d h = absurd (omega (arith, h))
set_here (y ∷ xs) zero x d h = refl
set_here (y ∷ xs) (suc k) x d h = set_here xs k x d (omega (arith, h))

-- and the others are as before
pub set_other : {X : Type 0} (xs : List X) (k j : ℕ) (x d : X) → (j ≡ k → ⊥)
    → slice_index_or (slice_set xs k x) j d ≡ slice_index_or xs j d
set_other [] k j x d n = refl
set_other (y ∷ xs) zero zero x d n = absurd (n refl)
set_other (y ∷ xs) zero (suc j) x d n = refl
set_other (y ∷ xs) (suc k) zero x d n = refl
set_other (y ∷ xs) (suc k) (suc j) x d n = set_other xs k j x d (λ e. n (ap suc e))

pub set_length : {X : Type 0} (xs : List X) (k : ℕ) (x : X) → length (slice_set xs k x) ≡ length xs
set_length [] k x = refl
set_length (y ∷ xs) zero x = refl
set_length (y ∷ xs) (suc k) x = ap suc (set_length xs k x)

-- an index within a list has one value, whatever comes past its end
pub any_default : {X : Type 0} (xs : List X) (k : ℕ) (d e : X) → k < length xs → slice_index_or xs k d ≡ slice_index_or xs k e
any_default [] k d e h = absurd (omega (arith, h))
any_default (x ∷ xs) zero d e h = refl
any_default (x ∷ xs) (suc k) d e h = any_default xs k d e (omega (arith, h))

-- the last of a list that grew, and the others
pub push_last : {X : Type 0} (xs : List X) (x d : X) → slice_index_or (xs ++ x ∷ []) (length xs) d ≡ x
push_last [] x d = refl
push_last (y ∷ xs) x d = push_last xs x d

pub push_other : {X : Type 0} (xs : List X) (x d : X) (k : ℕ) → k < length xs
    → slice_index_or (xs ++ x ∷ []) k d ≡ slice_index_or xs k d
push_other [] x d k h = absurd (omega (arith, h))
push_other (y ∷ xs) x d zero h = refl
push_other (y ∷ xs) x d (suc k) h = push_other xs x d k (omega (arith, h))

-- what holds of each place of a list and its value, with one value more
pub each_more : {X : Type 0} (P : ℕ → Option X → Type 0) (xs : List (Option X)) (y : Option X) (n : ℕ) → length xs ≡ n → P n y
    → ((k : ℕ) → k < length xs → P k (get_or xs k None))
    → (k : ℕ) → k < length (xs ++ y ∷ []) → P k (get_or (xs ++ y ∷ []) k None)
each_more P xs y n e last all k h =
    let l = length-append xs (y ∷ []) in
    by_lt {P = P k (get_or (xs ++ y ∷ []) k None)} k (length xs)
    (λ lt. rw (option_before xs y k lt) (all k lt))
    (λ ge.
    let at : k ≡ length xs = omega (arith, l, h, ge) in
    let same : n ≡ k = omega (arith, e, at) in
    rw (option_last xs y k at) (subst (λ (i : ℕ). P i y) same last)) where
      option_before : {X : Type 0} (xs : List (Option X)) (y : Option X) (k : ℕ) → k < length xs
          → get_or (xs ++ y ∷ []) k None ≡ get_or xs k None
      option_before [] y k h = absurd (omega (arith, h))
      option_before (x ∷ xs) y zero h = refl
      option_before (x ∷ xs) y (suc k) h = option_before xs y k (omega (arith, h))

      option_last : {X : Type 0} (xs : List (Option X)) (y : Option X) (k : ℕ) → k ≡ length xs → get_or (xs ++ y ∷ []) k None ≡ y
      option_last [] y zero e = refl
      option_last [] y (suc k) e = absurd (omega (arith, e))
      option_last (x ∷ xs) y zero e = absurd (omega (arith, e))
      option_last (x ∷ xs) y (suc k) e = option_last xs y k (omega (arith, e))
