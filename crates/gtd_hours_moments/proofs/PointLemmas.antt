-- Points of time, minute by minute.
use Rattle.std.proofs.Common.{◌≡◌, ◌≢◌, ◌∙◌, ℕ, zero, suc, ◌+◌, ◌-◌, ◌<◌, List, [], ◌∷◌, ◌++◌, refl}
use Rattle.std.proofs.Common.{sym, ap, subst, arith, append_assoc}
use Rattle.gtd_hours_moments.specs.declared.ranges.MinuteRange.{MinuteRange}
use Rattle.gtd_hours_moments.specs.Ranges.{points_in, range_after}

point_here : (left step minute point : ℕ) → 0 < left → points_in left 0 step minute point
    ≡ range_after minute point ∷ points_in (left - 1) (step - 1) step (minute + 1) point
point_here zero step minute point some = absurd (omega arith)
point_here (suc left) step minute point some =
    let e : left ≡ suc left - 1 = omega arith in
    ap (λ (n : ℕ). range_after minute point ∷ points_in n (step - 1) step (minute + 1) point) e

point_later : (left wait step minute point : ℕ) → 0 < left → wait ≢ 0
    → points_in left wait step minute point ≡ points_in (left - 1) (wait - 1) step (minute + 1) point
point_later zero wait step minute point some later = absurd (omega arith)
point_later (suc left) zero step minute point some later = absurd (later refl)
point_later (suc left) (suc wait) step minute point some later =
    let e : left ≡ suc left - 1 = omega arith in
    let f : wait ≡ suc wait - 1 = omega arith in
    ap (λ (n : ℕ). points_in n wait step (minute + 1) point) e
    ∙ ap (λ (n : ℕ). points_in (suc left - 1) n step (minute + 1) point) f

-- a point is put
pub point_put : (old new all : List MinuteRange) (left wait next step minute point long : ℕ) → 0 < left → wait ≡ 0
    → next ≡ step - 1 → long ≡ point → new ≡ old ++ range_after minute long ∷ []
    → old ++ points_in left wait step minute point ≡ all → new ++ points_in (left - 1) next step (minute + 1) point ≡ all
point_put old new all left wait next step minute point long some now n l put h =
    let rest = points_in (left - 1) (step - 1) step (minute + 1) point in
    ap (λ (xs : List MinuteRange). xs ++ points_in (left - 1) next step (minute + 1) point) put
    ∙ ap (λ (m : ℕ). (old ++ range_after minute m ∷ []) ++ points_in (left - 1) next step (minute + 1) point) l
    ∙ ap (λ (m : ℕ). (old ++ range_after minute point ∷ []) ++ points_in (left - 1) m step (minute + 1) point) n
    ∙ append_assoc old (range_after minute point ∷ []) rest
    ∙ ap (λ (xs : List MinuteRange). old ++ xs) (sym (point_here left step minute point some))
    ∙ subst (λ (m : ℕ). old ++ points_in left m step minute point ≡ all) now h

-- a minute passes
pub minute_passed : (found all : List MinuteRange) (left wait next step minute point : ℕ) → 0 < left → wait ≢ 0
    → next ≡ wait - 1 → found ++ points_in left wait step minute point ≡ all
    → found ++ points_in (left - 1) next step (minute + 1) point ≡ all
minute_passed found all left wait next step minute point some later n h =
    ap (λ (m : ℕ). found ++ points_in (left - 1) m step (minute + 1) point) n
    ∙ ap (λ (xs : List MinuteRange). found ++ xs) (sym (point_later left wait step minute point some later))
    ∙ h
