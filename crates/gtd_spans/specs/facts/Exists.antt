-- Each test has a normal list: `normal_list` is normal, and holds the seconds that pass.
use Rattle.std.proofs.Common.{◌≡◌, ◌⊎◌, ◌↔◌, ◌≢◌, List, [], ◌∷◌, refl, ap, ◌∙◌, inl, inr, arith, Bool, true}
use Rattle.std.specs.Prelude.{ℕ, zero, suc, ℤ, pos, ◌+ℤ◌, ◌≤ℤ◌, ◌<ℤ◌}
use Rattle.std.specs.Ordering.{int_eq}
use Rattle.std.proofs.lemmas.Int.{ints, by_lt_z}
use Rattle.std.proofs.lemmas.Bool.{cases_Bool}
use Rattle.std.proofs.lemmas.Bool.Decides.{Decides-int_eq}
use Rattle.gtd_core.specs.Seconds.{Interval}
use Rattle.gtd_spans.specs.Normal.{Holds, AllBeginAfter, IsNormal, with_second, normal_list}

pub after-weaken : (b c : ℤ) (xs : List Interval) → c ≤ℤ b → AllBeginAfter b xs → AllBeginAfter c xs
after-weaken b c [] le a = tt
after-weaken b c (x ∷ xs) le a = (omega (arith, ints, a.0), after-weaken b c xs le a.1)

abbrev one : ℤ → Interval
one t = record { from = t; until = t +ℤ pos 1 }

-- the two lists that `with_second` makes of a list with a first interval
with_second-cases : (t : ℤ) (x : Interval) (xs : List Interval)
    → ((x.from ≡ t +ℤ pos 1) × (with_second t (x ∷ xs) ≡ record { from = t; until = x.until } ∷ xs))
    ⊎ ((x.from ≢ t +ℤ pos 1) × (with_second t (x ∷ xs) ≡ one t ∷ x ∷ xs))
with_second-cases t x xs =
    let d = Decides-int_eq x.from (t +ℤ pos 1) in
    elim (cases_Bool (int_eq x.from (t +ℤ pos 1))) [
      | inl e ↦ inl (d.0 e, rw e refl)
      | inr e ↦ inr ((λ h. let f : int_eq x.from (t +ℤ pos 1) ≡ true = d.1 h in cc), rw e refl)
    ]

with_second-normal : (t : ℤ) (xs : List Interval) → AllBeginAfter t xs → IsNormal xs → IsNormal (with_second t xs)
with_second-normal t [] a n = (omega (arith, ints), tt, tt)
with_second-normal t (x ∷ xs) a n = elim (with_second-cases t x xs) [
  | inl c ↦ let lt : t <ℤ x.until = omega (arith, ints, a.0, n.0) in rw (c.1) (lt, n.1, n.2)
  | inr c ↦ let gap : (t +ℤ pos 1) <ℤ x.from = omega (arith, ints, a.0, c.0) in
      let le : (t +ℤ pos 1) ≤ℤ x.until = omega (arith, ints, n.0) in
      let lt : t <ℤ (t +ℤ pos 1) = omega (arith, ints) in
      rw (c.1) (lt, (gap, after-weaken x.until (t +ℤ pos 1) xs le n.1), n)
]

pub with_second-holds : (t u : ℤ) (xs : List Interval) → AllBeginAfter t xs → IsNormal xs → Holds (with_second t xs) u
    ↔ ((u ≡ t) ⊎ Holds xs u)
with_second-holds t u [] a n = (
  (λ h. elim h [ inl w ↦ inl (omega (arith, ints, w.0, w.1)) | inr r ↦ absurd r ]),
  (λ h. elim h [ inl e ↦ inl (omega (arith, ints, e), omega (arith, ints, e)) | inr r ↦ absurd r ]),
)
with_second-holds t u (x ∷ xs) a n = elim (with_second-cases t x xs) [
  | inl c ↦ rw (c.1) (
    (λ h. elim h [
      | inl w ↦ by_lt_z t u (λ lt. inr (inl (omega (arith, ints, c.0), w.1))) (λ le. inl (omega (arith, ints, w.0)))
      | inr r ↦ inr (inr r)
    ]),
    (λ h. elim h [
      | inl e ↦ inl (omega (arith, ints, e), omega (arith, ints, e, a.0, n.0))
      | inr k ↦ elim k [ inl w ↦ inl (omega (arith, ints, a.0, w.0), w.1) | inr r ↦ inr r ]
    ]),
  )
  | inr c ↦ rw (c.1) (
    (λ h. elim h [ inl w ↦ inl (omega (arith, ints, w.0, w.1)) | inr r ↦ inr r ]),
    (λ h. elim h [ inl e ↦ inl (omega (arith, ints, e), omega (arith, ints, e)) | inr r ↦ inr r ]),
  )
]

with_second-after : (b t : ℤ) (xs : List Interval) → b <ℤ t → AllBeginAfter b xs → AllBeginAfter b (with_second t xs)
with_second-after b t [] lt a = (lt, tt)
with_second-after b t (x ∷ xs) lt a = elim (with_second-cases t x xs) [
  | inl c ↦ rw (c.1) (lt, a.1)
  | inr c ↦ rw (c.1) (lt, a)
]

pub normal_list-after : (p : ℤ → Bool) (t b : ℤ) (n : ℕ) → b <ℤ t → AllBeginAfter b (normal_list p t n)
unfolding normal_list
normal_list-after p t b zero lt = tt
normal_list-after p t b (suc n) lt =
    let rest : AllBeginAfter b (normal_list p (t +ℤ pos 1) n) = normal_list-after p (t +ℤ pos 1) b n (omega (arith, ints)) in
    elim (cases_Bool (p t)) [ inl e ↦ rw e (with_second-after b t _ lt rest) | inr e ↦ rw e rest ]

pub normal_list-normal : (p : ℤ → Bool) (t : ℤ) (n : ℕ) → IsNormal (normal_list p t n)
unfolding normal_list
normal_list-normal p t zero = tt
normal_list-normal p t (suc n) =
    let rest : IsNormal (normal_list p (t +ℤ pos 1) n) = normal_list-normal p (t +ℤ pos 1) n in
    let after : AllBeginAfter t (normal_list p (t +ℤ pos 1) n) = normal_list-after p (t +ℤ pos 1) t n (omega (arith, ints)) in
    elim (cases_Bool (p t)) [ inl e ↦ rw e (with_second-normal t _ after rest) | inr e ↦ rw e rest ]

pub normal_list-holds : (p : ℤ → Bool) (t : ℤ) (n : ℕ) (u : ℤ)
    → Holds (normal_list p t n) u ↔ ((t ≤ℤ u) × (u <ℤ (t +ℤ pos n)) × (p u ≡ true))
unfolding normal_list
normal_list-holds p t zero u = ((λ h. absurd h), (λ h. absurd (omega (arith, ints, h.0, h.1))))
normal_list-holds p t (suc n) u =
    let after : AllBeginAfter t (normal_list p (t +ℤ pos 1) n) = normal_list-after p (t +ℤ pos 1) t n (omega (arith, ints)) in
    let i = normal_list-holds p (t +ℤ pos 1) n u in
    let w = with_second-holds t u (normal_list p (t +ℤ pos 1) n) after (normal_list-normal p (t +ℤ pos 1) n) in
    elim (cases_Bool (p t)) [
      | inl e ↦ rw e (
        (λ h. elim (w.0 h) [
          | inl f ↦ (omega (arith, ints, f), omega (arith, ints, f), ap p f ∙ e)
          | inr r ↦ let k = i.0 r in (omega (arith, ints, k.0), omega (arith, ints, k.1), k.2)
        ]),
        (λ h. w.1 (by_lt_z t u
            (λ lt. inr (i.1 (omega (arith, ints), omega (arith, ints, h.1), h.2)))
            (λ le. inl (omega (arith, ints, h.0))))),
      )
      | inr e ↦ rw e (
        (λ r. let k = i.0 r in (omega (arith, ints, k.0), omega (arith, ints, k.1), k.2)),
        (λ h. by_lt_z t u
            (λ lt. i.1 (omega (arith, ints), omega (arith, ints, h.1), h.2))
            (λ le. let f : u ≡ t = omega (arith, ints, h.0) in let g : p u ≡ p t = ap p f in
            absurd (let b : p u ≡ true = h.2 in cc))),
      )
    ]
