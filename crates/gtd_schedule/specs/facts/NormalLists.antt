-- A list is normal as a whole exactly if it is so interval by interval.
use Rattle.std.specs.Prelude.{◌≡◌, ◌↔◌, ℤ, ◌<ℤ◌, ◌≤ℤ◌, List, [], ◌∷◌}
use Rattle.std.proofs.Common.{arith, inl, inr, subst}
use Rattle.std.proofs.lemmas.Int.{ints, by_lt_z}
use Rattle.gtd_core.specs.Seconds.{Interval, Within}
use Rattle.gtd_spans.specs.Normal.{AllBeginAfter, Holds, IsNormal, IsNormalFor}
use Rattle.gtd_spans.specs.facts.NormalFor.{normal-for, normal-of}
use Rattle.gtd_spans.specs.facts.OneList.{after-holds}
use Rattle.gtd_schedule.specs.Shown.{IsNormalList}

-- ---- from the whole to the intervals

by_intervals : (set : ℤ → Type 0) (from : ℤ) (xs : List Interval) → IsNormal xs
    → ((t : ℤ) → Holds xs t ↔ ((from ≤ℤ t) × set t)) → IsNormalList set from xs
by_intervals set from [] n is = λ t le s. (is t).1 (le, s)
by_intervals set from (x ∷ xs) n is =
    let begin = (is x.from).0 (inl (omega (arith, ints), n.0)) in (
      begin.0,
      n.0,
      (λ t le lt s. elim ((is t).1 (le, s)) [
        | inl w ↦ omega (arith, ints, w.0, lt)
        | inr k ↦ let q = after-holds x.until t xs n.1 k in omega (arith, ints, q, lt, n.0)
      ]),
      (λ t w. ((is t).0 (inl w)).1),
      (λ s. elim ((is x.until).1 (omega (arith, ints, begin.0, n.0), s)) [
        | inl w ↦ omega (arith, ints, w.1)
        | inr k ↦ let q = after-holds x.until x.until xs n.1 k in omega (arith, ints, q)
      ]),
      by_intervals set x.until xs n.2 (λ t. (
        (λ k. let q = after-holds x.until t xs n.1 k in (omega (arith, ints, q), ((is t).0 (inr k)).1)),
        (λ i. elim ((is t).1 (omega (arith, ints, i.0, begin.0, n.0), i.1)) [
          | inl w ↦ absurd (omega (arith, ints, w.1, i.0))
          | inr k ↦ k
        ]),
      )),
    )

-- ---- and back

after_of : (b : ℤ) (xs : List Interval) → IsNormal xs → ((t : ℤ) → Holds xs t → b <ℤ t) → AllBeginAfter b xs
after_of b [] n later = tt
after_of b (x ∷ xs) n later =
    (later x.from (inl (omega (arith, ints), n.0)), after_of b xs n.2 (λ t k. later t (inr k)))

held : (set : ℤ → Type 0) (from : ℤ) (xs : List Interval) → IsNormalList set from xs
    → (t : ℤ) → Holds xs t → (from ≤ℤ t) × set t
held set from [] n t h = absurd h
held set from (x ∷ xs) n t h = elim h [
  | inl w ↦ (omega (arith, ints, n.0, w.0), n.3 t w)
  | inr k ↦ let i = held set x.until xs n.5 t k in (omega (arith, ints, i.0, n.0, n.1), i.1)
]

holding : (set : ℤ → Type 0) (from : ℤ) (xs : List Interval) → IsNormalList set from xs
    → (t : ℤ) → from ≤ℤ t → set t → Holds xs t
holding set from [] n t le s = absurd (n t le s)
holding set from (x ∷ xs) n t le s =
    by_lt_z t x.from
    (λ before. absurd (n.2 t le before s))
    (λ begun. by_lt_z t x.until
    (λ inside. inl (begun, inside))
    (λ past. inr (holding set x.until xs n.5 t past s)))

same : (a b : ℤ) → a ≤ℤ b → b ≤ℤ a → b ≡ a
same a b le ge = omega (arith, ints, le, ge)

normal_of_list : (set : ℤ → Type 0) (from : ℤ) (xs : List Interval) → IsNormalList set from xs → IsNormal xs
normal_of_list set from [] n = tt
normal_of_list set from (x ∷ xs) n =
    let rest = normal_of_list set x.until xs n.5 in (
      n.1,
      after_of x.until xs rest (λ t k.
          let i = held set x.until xs n.5 t k in
          by_lt_z x.until t (λ lt. lt) (λ le. absurd (n.4 (subst set (same x.until t i.0 le) i.1)))),
      rest,
    )

pub normal-intervals : (set : ℤ → Type 0) (x : Interval) (xs : List Interval)
    → IsNormalFor set x.from x.until xs ↔ IsNormalList (λ t. Within x t × set t) x.from xs
normal-intervals set x xs = (
  (λ n. by_intervals (λ t. Within x t × set t) x.from xs (normal-of set x.from x.until xs n) (λ t. (
    (λ h. let i = n.inside t h in (i.0, ((i.0, i.1), i.2))),
    (λ i. n.complete t (i.0, i.1.0.1, i.1.1)),
  ))),
  (λ n. normal-for set x.from x.until xs (normal_of_list (λ t. Within x t × set t) x.from xs n) (λ t. (
    (λ h. let i = held (λ t. Within x t × set t) x.from xs n t h in (i.0, i.1.0.1, i.1.1)),
    (λ i. holding (λ t. Within x t × set t) x.from xs n t i.0 ((i.0, i.1), i.2)),
  ))),
)
