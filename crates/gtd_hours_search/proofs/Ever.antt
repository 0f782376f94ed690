-- Expressions whose years are near agree for ever if they agree from 1901 to 2699: before and after, the basic domains that give
-- a year hold nothing, and the others repeat after 400 years.
use Rattle.std.proofs.Common.{◌≡◌, ◌↔◌, ◌⊎◌, inl, inr, refl, subst, sym, ℕ, ◌+◌, ◌*◌, ◌<◌, ◌≤◌, Option, Some, None, IfSome, arith}
use Rattle.std.specs.Prelude.{ℤ, pos, neg_ℤ, ◌+ℤ◌, ◌-ℤ◌, ◌*ℤ◌, ◌<ℤ◌, ◌≤ℤ◌}
use Rattle.std.proofs.lemmas.Int.{ints, by_lt_z}
use Rattle.gtd_core.specs.Ranges.{bound_of}
use Rattle.gtd_core.specs.Trees.{Tree, Single, Joined}
use Rattle.gtd_core.specs.declared.duration.DurationParts.{DurationParts}
use Rattle.gtd_core.specs.declared.start.StartParts.{StartParts}
use Rattle.gtd_calendar.specs.Calendar.{first_day, thursday_of, IsWeekOf, IsDateOf}
use Rattle.gtd_calendar.specs.facts.Signed.{signed_arith}
use Rattle.gtd_calendar.specs.facts.ClockLemmas.{stop-bound}
use Rattle.gtd_calendar.specs.facts.DateLemmas.{day_number-in_year}
use Rattle.gtd_calendar.specs.facts.StopLemmas.{stop-only}
use Rattle.gtd_calendar.specs.facts.YearDays.{year_length-few}
use Rattle.gtd_spans.specs.Normal.{Combined}
use Rattle.gtd_spans.specs.facts.NormalFor.{combined-both}
use Rattle.gtd_recur.specs.Membership.{HoldsOn, InStretches}
use Rattle.gtd_recur.specs.facts.CycleLemmas.{in_stretches-forward, in_stretches-back}
use Rattle.gtd_eval.specs.Ever.{cycle}
use Rattle.gtd_eval.specs.Membership.{InTree}
use Rattle.gtd_eval.specs.facts.Repeats.{Repeats, behind, never-after, repeats-many}
use Rattle.gtd_difference.specs.Difference.{AgreeFrom, first_begin, last_end}
use Rattle.gtd_hours_search.specs.Years.{HasNearYears, IsNear}

-- ---- a day on which a start holds that gives a year

near_date : (n y : ℤ) (m d : ℕ) → IsDateOf n y m d → (first_day y ≤ℤ n) × (n ≤ℤ (first_day y +ℤ pos 400))
near_date n y m d h =
    let in_year = day_number-in_year y m d h.0 in
    let few = year_length-few y in
    (omega (arith, signed_arith, h.1, in_year.0), omega (arith, signed_arith, h.1, in_year.1, few))

near_week : (n y : ℤ) (w : ℕ) → IsWeekOf n y w → ((first_day y -ℤ pos 7) ≤ℤ n) × (n ≤ℤ (first_day y +ℤ pos 400))
unfolding thursday_of
near_week n y w h =
    let few = year_length-few y in
    let is = h.thursday in
    let less = h.in_year in
    (omega (arith, signed_arith, is), omega (arith, signed_arith, is, less, few))

abbrev IsInYear : ℕ → ℤ → Type 0
IsInYear y n = ((first_day (pos y) -ℤ pos 7) ≤ℤ n) × (n ≤ℤ (first_day (pos y) +ℤ pos 400))

at_year : (n : ℤ) (y : ℕ) (of : ℤ) → pos y ≡ of → ((first_day of -ℤ pos 7) ≤ℤ n) × (n ≤ℤ (first_day of +ℤ pos 400)) → IsInYear y n
at_year n y of same near = subst (λ (z : ℤ). ((first_day z -ℤ pos 7) ≤ℤ n) × (n ≤ℤ (first_day z +ℤ pos 400))) (sym same) near

dated : (p : StartParts) (n : ℤ) (y : ℕ) (week : Option ℕ) → p.week ≡ week → p.year ≡ Some y → HoldsOn p n → IsInYear y n
dated p n y None none given h =
    let same : pos y ≡ h.year = rw given at (h.in_year (rw none refl)) in
    let near = near_date n h.year h.month h.day h.date in
    at_year n y h.year same (omega (arith, signed_arith, near.0), near.1)
dated p n y (Some w) is given h =
    let weeks = subst (λ (week : Option ℕ). IfSome week (λ k. (of : ℤ) × IsWeekOf n of k × IfSome p.year (λ x. pos x ≡ of)))
    is h.in_week in
    let years = subst (λ (year : Option ℕ). (of : ℤ) × IsWeekOf n of w × IfSome year (λ x. pos x ≡ of)) given weeks in
    at_year n y years.0 years.2 (near_week n years.0 w years.1)

near_year : (y : ℕ) → (1902 ≤ y) × (y ≤ 2150) → (neg_ℤ (pos 24900) ≤ℤ first_day (pos y)) × (first_day (pos y) ≤ℤ pos 66000)
unfolding first_day
near_year y h = (omega (arith, signed_arith, h.0, h.1), omega (arith, signed_arith, h.0, h.1))

-- ---- seconds at which no stretch is that begins in a year that is given

abbrev quiet_from : ℤ
quiet_from = pos 120529 *ℤ pos 86400

abbrev IsOutside : ℤ → Type 0
IsOutside t = (t <ℤ first_begin) ⊎ (quiet_from ≤ℤ t)

apart : (first n b t e : ℤ) (second bound : ℕ) → neg_ℤ (pos 24900) ≤ℤ first → first ≤ℤ pos 66000 → (first -ℤ pos 7) ≤ℤ n
    → n ≤ℤ (first +ℤ pos 400) → b ≡ pos 86400 *ℤ n +ℤ pos second → second < 86400 → bound ≤ 3162240000
    → e ≤ℤ (b +ℤ pos bound) → b ≤ℤ t → t <ℤ e → IsOutside t → ⊥
apart first n b t e second bound low high after before is small few far begun held (inl early) =
    omega (arith, signed_arith, low, after, is, begun, early)
apart first n b t e second bound low high after before is small few far begun held (inr late) =
    omega (arith, signed_arith, high, before, is, small, few, far, held, late)

none_outside : (p : StartParts) (q : DurationParts) (t : ℤ) (y : ℕ) → p.year ≡ Some y → IsNear p q → IsOutside t
    → InStretches p q t → ⊥
unfolding InStretches
none_outside p q t y given near outside h =
    let matched = h.2 in
    let n = matched.0 in
    let clock = matched.4 in
    let in_range = rw given at near.0 in
    let year = near_year y in_range in
    let day = dated p n y p.week refl given matched.5 in
    let ends = rw (← stop-only q h.0 h.1 h.3) at (stop-bound q h.0).1 in
    apart (first_day (pos y)) n h.0 t h.1 (3600 * matched.1 + 60 * matched.2 + matched.3) (bound_of q) year.0 year.1 day.0 day.1
    clock.is (omega (arith, clock.clock.0, clock.clock.1, clock.clock.2)) near.1 ends h.4 h.5 outside

-- ---- expressions without the basic domains that give a year

abbrev Quiet : Tree → ℤ → Type 0
Quiet (Single p q) t = (p.year ≡ None) × InStretches p q t
Quiet (Joined op left right) t = Combined op (Quiet left t) (Quiet right t)

quiet-repeats : (e : Tree) (t : ℤ) → Quiet e t ↔ Quiet e (t +ℤ cycle)
quiet-repeats (Single p q) t = (
  (λ h. (h.0, in_stretches-forward p q t h.0 h.1)),
  (λ h. (h.0, in_stretches-back p q t h.0 h.1)),
)
quiet-repeats (Joined op left right) t = combined-both op _ _ _ _ (quiet-repeats left t) (quiet-repeats right t)

without : (year : Option ℕ) (P : Type 0) → ((y : ℕ) → year ≡ Some y → P → ⊥) → P ↔ ((year ≡ None) × P)
without None P never = ((λ h. (refl, h)), (λ h. h.1))
without (Some y) P never = ((λ h. absurd (never y refl h)), (λ h. h.1))

quiet-outside : (e : Tree) (t : ℤ) → HasNearYears e → IsOutside t → InTree e t ↔ Quiet e t
quiet-outside (Single p q) t near outside =
    without p.year (InStretches p q t) (λ y given h. none_outside p q t y given near outside h)
quiet-outside (Joined op left right) t near outside =
    combined-both op _ _ _ _ (quiet-outside left t near.0 outside) (quiet-outside right t near.1 outside)

-- ---- two expressions

-- a set that repeats, and holds each second of a whole cycle, holds all
always-cycle : (set : ℤ → Type 0) → Repeats set → (s until : ℤ) → (s +ℤ cycle) <ℤ until
    → ((t : ℤ) → s ≤ℤ t → t <ℤ until → set t) → (t : ℤ) → set t
always-cycle set r s until far h =
    let here : set s = h s (omega (arith, ints)) (omega (arith, ints, far)) in
    let never = never-after set r s until far (λ t later before.
    ((λ a. h t (omega (arith, ints, later)) before), (λ a. here))) in
    λ t. by_lt_z {P = set t} s t (λ lt. (never t lt).0 here) (λ le.
    let b = behind t (s +ℤ pos 1) (omega (arith, ints, le)) in
    let k : ℕ = b.0 + 1 in
    let u : ℤ = t +ℤ pos (k * 12622780800) in
    (repeats-many set r k t).1 ((never u (omega (arith, ints, b.1))).0 here))

through : (P Q R S : Type 0) → P ↔ R → Q ↔ S → R ↔ S → P ↔ Q
through P Q R S e f h = ((λ p. f.1 (h.0 (e.0 p))), (λ q. e.1 (h.1 (f.0 q))))

swap : (P Q : Type 0) → P ↔ Q → Q ↔ P
swap P Q e = (e.1, e.0)

later : (P Q R S : Type 0) → P ↔ R → Q ↔ S → (P ↔ Q) ↔ (R ↔ S)
later P Q R S e f = (
  (λ h. ((λ r. f.0 (h.0 (e.1 r))), (λ s. e.0 (h.1 (f.1 s))))),
  (λ h. ((λ p. f.1 (h.0 (e.0 p))), (λ q. e.1 (h.1 (f.0 q))))),
)

module _ (a b : Tree) (near : HasNearYears a) (others : HasNearYears b)
    (agree : AgreeFrom (InTree a) (InTree b) first_begin last_end) where
  quiet-agree : (t : ℤ) → Quiet a t ↔ Quiet b t
  quiet-agree =
      always-cycle (λ t. Quiet a t ↔ Quiet b t)
      (λ t. later (Quiet a t) (Quiet b t) (Quiet a (t +ℤ cycle)) (Quiet b (t +ℤ cycle)) (quiet-repeats a t) (quiet-repeats b t))
      quiet_from last_end (omega (arith, ints))
      (λ t from until. through (Quiet a t) (Quiet b t) (InTree a t) (InTree b t)
      (swap (InTree a t) (Quiet a t) (quiet-outside a t near (inr from)))
      (swap (InTree b t) (Quiet b t) (quiet-outside b t others (inr from)))
      (agree t (omega (arith, ints, from)) until))

  outside : (t : ℤ) → IsOutside t → InTree a t ↔ InTree b t
  outside t out =
      through (InTree a t) (InTree b t) (Quiet a t) (Quiet b t) (quiet-outside a t near out) (quiet-outside b t others out)
      (quiet-agree t)

  pub same-ever : (t : ℤ) → InTree a t ↔ InTree b t
  same-ever t =
      by_lt_z {P = InTree a t ↔ InTree b t} t first_begin (λ early. outside t (inl early)) (λ begun.
      by_lt_z {P = InTree a t ↔ InTree b t} t last_end (λ before. agree t begun before)
      (λ late. outside t (inr (omega (arith, ints, late)))))
