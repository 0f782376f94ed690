-- `combine` is normal, and holds what the operator makes of the two lists.
use Rattle.std.proofs.Common.{◌≡◌, ◌⊎◌, ◌↔◌, List, [], ◌∷◌, refl, inl, inr, arith, Bool, true, false, ◌&&◌}
use Rattle.std.specs.Prelude.{ℕ, ◌+◌, ℤ, pos, neg_ℤ, ◌≤ℤ◌, ◌<ℤ◌, int_le, int_lt, unsigned_abs}
use Rattle.std.specs.Bool.{Decides}
use Rattle.std.proofs.lemmas.Int.{ints}
use Rattle.gtd_core.specs.Seconds.{Interval, Within}
use Rattle.gtd_core.specs.declared.domain.Op.{Op}
use Rattle.gtd_core.specs.declared.domain.Op.TheVariants.{Union, Meet, Minus}
use Rattle.gtd_spans.specs.Normal.{Holds, IsNormal, Combined, combined, is_held, reach, combine}
use Rattle.gtd_spans.specs.facts.Exists.{normal_list-normal, normal_list-holds}

within-decides : (x : Interval) (t : ℤ) → Decides (int_le x.from t && int_lt t x.until) (Within x t)
within-decides x t = grind (arith, ints)

pub combined-decides : (op : Op) (p q : Bool) (P Q : Type 0) → Decides p P → Decides q Q
    → Decides (combined op p q) (Combined op P Q)
combined-decides Union true q P Q d e = ((λ h. inl (d.0 refl)), (λ h. refl))
combined-decides Union false q P Q d e =
    ((λ h. inr (e.0 h)), (λ h. elim h [ inl k ↦ absurd (let b : false ≡ true = d.1 k in cc) | inr k ↦ e.1 k ]))
combined-decides Meet true q P Q d e = ((λ h. (d.0 refl, e.0 h)), (λ h. e.1 h.1))
combined-decides Meet false q P Q d e = ((λ h. absurd (let b : false ≡ true = h in cc)), (λ h. d.1 h.0))
combined-decides Minus true true P Q d e = ((λ h. absurd (let b : false ≡ true = h in cc)), (λ h. absurd (h.1 (e.0 refl))))
combined-decides Minus true false P Q d e =
    ((λ h. (d.0 refl, (λ k. let b : false ≡ true = e.1 k in cc))), (λ h. refl))
combined-decides Minus false q P Q d e = ((λ h. absurd (let b : false ≡ true = h in cc)), (λ h. d.1 h.0))

pub is_held-decides : (xs : List Interval) (t : ℤ) → Decides (is_held xs t) (Holds xs t)
is_held-decides [] t = ((λ h. let b : false ≡ true = h in cc), (λ h. absurd h))
is_held-decides (x ∷ xs) t = combined-decides Union _ _ _ _ (within-decides x t) (is_held-decides xs t)

abs-bounds : (z : ℤ) → (neg_ℤ (pos (unsigned_abs z)) ≤ℤ z) × (z ≤ℤ pos (unsigned_abs z))
abs-bounds z = grind (arith, ints)

reach-holds : (xs : List Interval) (t : ℤ) → Holds xs t → (neg_ℤ (pos (reach xs)) ≤ℤ t) × (t <ℤ pos (reach xs))
reach-holds [] t h = absurd h
reach-holds (x ∷ xs) t h =
    let f = abs-bounds x.from in
    let u = abs-bounds x.until in
    elim h [
      | inl w ↦ (omega (arith, ints, w.0, w.1, f.0, f.1, u.0, u.1), omega (arith, ints, w.0, w.1, f.0, f.1, u.0, u.1))
      | inr r ↦ let k = reach-holds xs t r in (omega (arith, ints, k.0), omega (arith, ints, k.1))
    ]

-- what the operator makes of two lists is held by one of them
combined-either : (op : Op) (P Q : Type 0) → Combined op P Q → P ⊎ Q
combined-either Union P Q h = h
combined-either Meet P Q h = inl h.0
combined-either Minus P Q h = inl h.0

pub combine-normal : (op : Op) (xs ys : List Interval) → IsNormal (combine op xs ys)
unfolding combine
combine-normal op xs ys = normal_list-normal _ _ _

pub combine-holds : (op : Op) (xs ys : List Interval) (t : ℤ) → Holds (combine op xs ys) t ↔ Combined op (Holds xs t) (Holds ys t)
unfolding combine
combine-holds op xs ys t =
    let n : ℕ = reach xs + reach ys in
    let d = combined-decides op _ _ _ _ (is_held-decides xs t) (is_held-decides ys t) in
    let i = normal_list-holds (λ u. combined op (is_held xs u) (is_held ys u)) (neg_ℤ (pos n)) (n + n) t in (
      (λ h. d.0 (i.0 h).2),
      (λ h. elim (combined-either op _ _ h) [
        | inl l ↦ let k = reach-holds xs t l in i.1 (omega (arith, ints, k.0), omega (arith, ints, k.1), d.1 h)
        | inr r ↦ let k = reach-holds ys t r in i.1 (omega (arith, ints, k.0), omega (arith, ints, k.1), d.1 h)
      ]),
    )
