-- Years without a last one are many exactly if they are not few.
use Rattle.std.proofs.Common.{◌≡◌, refl, ℕ, ◌+◌, ◌*◌, ◌≤◌, ◌<◌, Bool, true, false, arith, inl, inr, ◌↔◌}
use Rattle.std.specs.Prelude.{◌&&◌, ◌==◌, nat_le}
use Rattle.std.proofs.lemmas.Bool.{cases_lt, eqb-true, le-leb, leb-true}
use Rattle.gtd_hours_parts.specs.Numbers.{IsStepNumber, IsYearNumber}
use Rattle.gtd_hours_parts.specs.Pieces.{AreFewYears}
use Rattle.gtd_hours_parts.specs.declared.digits.Digits.{Digits}
use Rattle.gtd_hours_items.specs.Every.{is_many}

all_four : (a b c d : Bool) → (a && b && c && d) ≡ true → (a ≡ true) × (b ≡ true) × (c ≡ true) × (d ≡ true)
all_four true true true true e = (refl, refl, refl, refl)
all_four true true true false e = absurd cc
all_four true true false d e = absurd cc
all_four true false c d e = absurd cc
all_four false b c d e = absurd cc

four : (a b c d : Bool) → a ≡ true → b ≡ true → c ≡ true → d ≡ true → (a && b && c && d) ≡ true
four a b c d p q r s = rw (p, q, r, s) refl

four_digits : (n : ℕ) → n ≡ 4 → (n == 4) ≡ true
four_digits n e = rw e refl

few_apart : (first step : ℕ) → first + 128 * step ≤ 2799 → 2799 < first + 128 * step → ⊥
few_apart first step le lt = absurd (omega (arith, le, lt))

in_calendar : (first step : ℕ) → first + 128 * step ≤ 2799 → first ≤ 2799
in_calendar first step le = omega (arith, le)

up_to_last : (first step : Digits) → IsStepNumber step → (AreFewYears first step → ⊥) → first.value + 128 * step.value ≤ 2799
up_to_last first step is none = elim (cases_lt 2799 (first.value + 128 * step.value)) [
  | inl lt ↦ absurd (none (is, lt))
  | inr le ↦ le
]

pub many_or_few : (first step : Digits) → IsStepNumber step
    → (is_many first.value first.count step.value ≡ true) ↔ (IsYearNumber first × (AreFewYears first step → ⊥))
many_or_few first step is = (
  (λ e.
      let all = all_four (first.count == 4) (nat_le 1800 first.value) (nat_le 1 step.value)
      (nat_le (first.value + 128 * step.value) 2799) e in
      let le = leb-true (first.value + 128 * step.value) 2799 all.3 in (
        (eqb-true first.count 4 all.0, leb-true 1800 first.value all.1, in_calendar first.value step.value le),
        (λ few. few_apart first.value step.value le few.1),
      )),
  (λ h.
      four (first.count == 4) (nat_le 1800 first.value) (nat_le 1 step.value) (nat_le (first.value + 128 * step.value) 2799)
      (four_digits first.count h.0.0) (le-leb 1800 first.value h.0.1) (le-leb 1 step.value is.2)
      (le-leb (first.value + 128 * step.value) 2799 (up_to_last first step is h.1))),
)
