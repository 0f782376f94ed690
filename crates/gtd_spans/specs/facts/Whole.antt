-- Operators with a side of one interval.
use Rattle.std.proofs.Common.{◌↔◌, List, [], ◌∷◌, inl, inr}
use Rattle.std.specs.Prelude.{ℤ}
use Rattle.gtd_core.specs.Seconds.{Interval, Within}
use Rattle.gtd_core.specs.declared.domain.Op.TheVariants.{Meet, Minus}
use Rattle.gtd_spans.specs.Normal.{Holds, combine}
use Rattle.gtd_spans.specs.facts.Combining.{combine-holds}

one-holds : (x : Interval) (t : ℤ) → Holds (x ∷ []) t → Within x t
one-holds x t h = elim h [ inl w ↦ w | inr e ↦ absurd e ]

pub minus-whole : (x : Interval) (ys : List Interval) (t : ℤ) → Holds (combine Minus (x ∷ []) ys) t
    ↔ (Within x t × (Holds ys t → ⊥))
minus-whole x ys t = let u = combine-holds Minus (x ∷ []) ys t in
    ((λ h. let k = u.0 h in (one-holds x t k.0, k.1)), (λ h. u.1 (inl h.0, h.1)))

pub meet-whole : (x : Interval) (ys : List Interval) (t : ℤ) → Holds (combine Meet ys (x ∷ [])) t ↔ (Holds ys t × Within x t)
meet-whole x ys t = let u = combine-holds Meet ys (x ∷ []) t in
    ((λ h. let k = u.0 h in (k.0, one-holds x t k.1)), (λ h. u.1 (h.0, inl h.1)))
