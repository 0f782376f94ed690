-- A set that can be decided has a normal list between two whole numbers.
use Rattle.std.proofs.Common.{◌≡◌, ◌⊎◌, ◌↔◌, ◌-◌, ◌+◌, ℕ, List, [], inl, inr, refl, arith, Bool, true, false}
use Rattle.std.specs.Prelude.{ℤ, pos, ◌+ℤ◌, ◌≤ℤ◌}
use Rattle.std.proofs.lemmas.Int.{ints, by_lt_z}
use borrow.Author.Differences.{up, down}
use Rattle.gtd_core.specs.Seconds.{Interval}
use Rattle.gtd_spans.specs.Normal.{IsNormalFor, normal_list}
use Rattle.gtd_spans.specs.facts.NormalFor.{normal-for}
use Rattle.gtd_spans.specs.facts.Exists.{normal_list-normal, normal_list-holds}

-- the answer, as a test
abbrev answer : (P : Type 0) → P ⊎ (P → ⊥) → Bool
answer P (inl p) = true
answer P (inr n) = false

answer-is : (P : Type 0) (d : P ⊎ (P → ⊥)) → (answer P d ≡ true) ↔ P
answer-is P (inl p) = ((λ h. p), (λ h. refl))
answer-is P (inr n) = ((λ h. absurd (let e : false ≡ true = h in cc)), (λ p. absurd (n p)))

listed : (set : ℤ → Type 0) (d : (t : ℤ) → set t ⊎ (set t → ⊥)) (from until : ℤ) (n : ℕ) → from +ℤ pos n ≡ until
    → IsNormalFor set from until (normal_list (λ t. answer (set t) (d t)) from n)
listed set d from until n e =
    normal-for set from until (normal_list (λ t. answer (set t) (d t)) from n) (normal_list-normal _ _ _) (λ t.
    let i = normal_list-holds (λ u. answer (set u) (d u)) from n t in
    let a = answer-is (set t) (d t) in (
      (λ h. let k = i.0 h in (k.0, omega (arith, ints, k.1, e), a.0 k.2)),
      (λ h. i.1 (h.0, omega (arith, ints, h.1, e), a.1 h.2)),
    ))

none : (set : ℤ → Type 0) (from until : ℤ) → until ≤ℤ from → IsNormalFor set from until []
none set from until le = normal-for set from until [] tt (λ t.
    ((λ h. absurd h), (λ h. absurd (omega (arith, ints, h.0, h.1, le)))))

pub some-normal-list : (set : ℤ → Type 0) → ((t : ℤ) → set t ⊎ (set t → ⊥)) → (from until : ℤ)
    → (xs : List Interval) × IsNormalFor set from until xs
some-normal-list set d from until =
    by_lt_z {P = ((xs : List Interval) × IsNormalFor set from until xs)} from until
    (λ lt. let n : ℕ = (up until + down from) - (up from + down until) in
    (normal_list (λ t. answer (set t) (d t)) from n, listed set d from until n (omega (arith, ints, lt))))
    (λ le. ([], none set from until le))
