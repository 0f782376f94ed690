-- What is decided: it holds, or it does not.
use Rattle.std.specs.Prelude.{◌⊎◌, Bool, true, false, ℤ, ◌≤ℤ◌, ◌<ℤ◌, IsTrue}
use Rattle.std.proofs.Common.{refl, inl, inr, arith}
use Rattle.std.proofs.lemmas.Int.{ints, by_lt_z}

-- it holds, or it does not
abbrev pub Decided : Type 0 → Type 0
Decided P = P ⊎ (P → ⊥)

pub both : (P Q : Type 0) → Decided P → Decided Q → Decided (P × Q)
both P Q p q =
    elim p [
      | inl a ↦ elim q [ inl b ↦ inl (a, b) | inr never ↦ inr (λ h. never h.1) ]
      | inr never ↦ inr (λ h. never h.0)
    ]

pub either : (P Q : Type 0) → Decided P → Decided Q → Decided (P ⊎ Q)
either P Q p q =
    elim p [
      | inl a ↦ inl (inl a)
      | inr first ↦ elim q [
        | inl b ↦ inl (inr b)
        | inr second ↦ inr (λ h. elim h [ inl a ↦ first a | inr b ↦ second b ])
      ]
    ]

pub not : (P : Type 0) → Decided P → Decided (P → ⊥)
not P p = elim p [ inl a ↦ inr (λ never. never a) | inr never ↦ inl never ]

pub is_true : (b : Bool) → Decided (IsTrue b)
is_true true = inl refl
is_true false = inr (λ h. cc)

pub at_most : (a b : ℤ) → Decided (a ≤ℤ b)
at_most a b =
    by_lt_z {P = Decided (a ≤ℤ b)} b a (λ lt. inr (λ h. omega (arith, ints, h, lt))) (λ le. inl le)

pub below : (a b : ℤ) → Decided (a <ℤ b)
below a b =
    by_lt_z {P = Decided (a <ℤ b)} a b (λ lt. inl lt) (λ le. inr (λ h. omega (arith, ints, h, le)))
