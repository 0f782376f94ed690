-- What the ranges of forms are.
use Rattle.std.proofs.Common.{◌≡◌, ◌∙◌, ℕ, zero, suc, ◌+◌, ◌-◌, ◌*◌, ◌<◌, ◌≤◌, inl, inr, ap, arith}
use Rattle.std.specs.Prelude.{min}
use Rattle.std.proofs.Math.Nat.{suc-mul, min-le_left, min-le_right, min-eq_left, min-eq_right}
use Rattle.std.proofs.lemmas.Bool.{cases_lt}
use Rattle.gtd_hours_moments.specs.declared.ranges.MinuteRange.{MinuteRange}
use Rattle.gtd_hours_moments.specs.Meaning.{IsAmong, IsPoint}
use Rattle.gtd_hours_moments.specs.Ranges.{before_midnight, points_in, range_after}

-- ---- points

-- A point of so many minutes from one on, of which the first comes after a wait.
record Falls (left wait step minute point : ℕ) (range : MinuteRange) : Type 0 where
  steps : ℕ
  begins : range.begin ≡ minute + wait + steps * step
  inside : range.begin < minute + left
  ends : range.end ≡ range.begin + point

later_point : (left step minute point : ℕ) (range : MinuteRange) → 1 ≤ step → Falls left (step - 1) step (minute + 1) point range
    → Falls (suc left) 0 step minute point range
later_point left step minute point range some f = record {
  steps = suc f.steps;
  begins = omega (arith, some, f.begins, suc-mul f.steps step);
  inside = omega (arith, f.inside);
  ends = f.ends;
}

later_minute : (left wait step minute point : ℕ) (range : MinuteRange) → Falls left wait step (minute + 1) point range
    → Falls (suc left) (suc wait) step minute point range
later_minute left wait step minute point range f =
    record { steps = f.steps; begins = omega (arith, f.begins); inside = omega (arith, f.inside); ends = f.ends }

falls : (left wait step minute point : ℕ) (range : MinuteRange) → 1 ≤ step
    → IsAmong range (points_in left wait step minute point) → Falls left wait step minute point range
falls zero wait step minute point range some among = absurd among
falls (suc left) zero step minute point range some (inl is) = record {
  steps = 0;
  begins = let e = ap (λ (r : MinuteRange). r.begin) is in omega (arith, e);
  inside = let e = ap (λ (r : MinuteRange). r.begin) is in omega (arith, e);
  ends =
      let e = ap (λ (r : MinuteRange). r.begin) is in
      let f = ap (λ (r : MinuteRange). r.end) is in
      omega (arith, e, f);
}
falls (suc left) zero step minute point range some (inr among) =
    later_point left step minute point range some (falls left (step - 1) step (minute + 1) point range some among)
falls (suc left) (suc wait) step minute point range some among =
    later_minute left wait step minute point range (falls left wait step (minute + 1) point range some among)

same_range : (a b : MinuteRange) → a.begin ≡ b.begin → a.end ≡ b.end → a ≡ b
same_range a b e f =
    let make : ℕ → ℕ → MinuteRange = λ x y. record { begin = x; end = y } in
    ap (λ (n : ℕ). make n a.end) e ∙ ap (make b.begin) f

fallen : (left wait step minute point steps : ℕ) (range : MinuteRange) → 1 ≤ step
    → range.begin ≡ minute + wait + steps * step → range.begin < minute + left → range.end ≡ range.begin + point
    → IsAmong range (points_in left wait step minute point)
fallen zero wait step minute point steps range some begins inside ends = absurd (omega (arith, begins, inside))
fallen (suc left) zero step minute point zero range some begins inside ends =
    inl (same_range range (range_after minute point) (omega (arith, begins)) (omega (arith, begins, ends)))
fallen (suc left) zero step minute point (suc steps) range some begins inside ends =
    inr (fallen left (step - 1) step (minute + 1) point steps range some (omega (arith, begins, some, suc-mul steps step))
    (omega (arith, inside)) ends)
fallen (suc left) (suc wait) step minute point steps range some begins inside ends =
    fallen left wait step (minute + 1) point steps range some (omega (arith, begins)) (omega (arith, inside)) ends

-- so many minutes from one on end with that which is so much later, or before 24:00
count_ends : (begin long m : ℕ) → begin ≤ m → (m < begin + before_midnight begin long → (m ≤ begin + long) × (m < 1440))
    × (m ≤ begin + long → m < 1440 → m < begin + before_midnight begin long)
count_ends begin long m from =
    let low = min-le_left (begin + long + 1) 1440 in
    let top = min-le_right (begin + long + 1) 1440 in (
      λ lt. (omega (arith, lt, low, from), omega (arith, lt, top, from)),
      λ within before. elim (cases_lt (begin + long + 1) 1440) [
        | inl less ↦
            let e : min (begin + long + 1) 1440 ≡ begin + long + 1 = min-eq_left (omega (arith, less)) in
            omega (arith, e, within, from)
        | inr more ↦
            let e : min (begin + long + 1) 1440 ≡ 1440 = min-eq_right more in omega (arith, e, before, from)
      ],
    )

pub points_are : (begin long step point : ℕ) (range : MinuteRange) → 1 ≤ step
    → IsAmong range (points_in (before_midnight begin long) 0 step begin point) → IsPoint begin long step point range
points_are begin long step point range some among =
    let f = falls (before_midnight begin long) 0 step begin point range some among in
    let from : begin ≤ range.begin = omega (arith, f.begins) in
    let ends = (count_ends begin long range.begin from).0 f.inside in
    record { steps = f.steps; begins = omega (arith, f.begins); within = ends.0; before = ends.1; ends = f.ends }

pub are_points : (begin long step point : ℕ) (range : MinuteRange) → 1 ≤ step → IsPoint begin long step point range
    → IsAmong range (points_in (before_midnight begin long) 0 step begin point)
are_points begin long step point range some p =
    let from : begin ≤ range.begin = omega (arith, p.begins) in
    fallen (before_midnight begin long) 0 step begin point p.steps range some (omega (arith, p.begins))
    ((count_ends begin long range.begin from).1 p.within p.before) p.ends
