-- What holds of each number below a bound, by trying each.
use Rattle.std.proofs.Common.{◌≡◌, ℕ, zero, suc, ◌<◌, Bool, true, ap, ◌∙◌, arith, ◌⊎◌, inl, inr}
use Rattle.std.specs.Prelude.{◌&&◌}
use Rattle.std.proofs.lemmas.Bool.{and_parts, cases_order}

abbrev pub all_below : ℕ → (ℕ → Bool) → Bool
all_below zero f = true
all_below (suc n) f = f n && all_below n f

by_order : (m n : ℕ) (P : Type 0) → (m ≡ n) ⊎ ((m < n) ⊎ (n < m)) → m < suc n → (m ≡ n → P) → (m < n → P) → P
by_order m n P (inl e) small same less = same e
by_order m n P (inr (inl l)) small same less = less l
by_order m n P (inr (inr g)) small same less = absurd (omega arith)

pub one_below : (n : ℕ) (f : ℕ → Bool) (m : ℕ) → all_below n f ≡ true → m < n → f m ≡ true
one_below zero f m h small = absurd (omega arith)
one_below (suc n) f m h small =
    let parts = and_parts (f n) (all_below n f) h in
    by_order m n (f m ≡ true) (cases_order m n) small (λ e. ap (λ (k : ℕ). f k) e ∙ parts.0)
    (λ less. one_below n f m parts.1 less)
