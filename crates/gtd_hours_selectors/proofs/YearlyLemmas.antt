-- Days that come in each of some years, and what is united before some selectors.
use Rattle.std.proofs.Common.{◌≡◌, sym, refl, subst, arith, ◌<◌, ◌⊎◌, inl, inr, ◌↔◌, ◌+◌, ℕ, Bool, true, false, ◌&&◌, ◌==◌}
use Rattle.std.proofs.Common.{List, [], ◌∷◌, ℤ, pos, ◌+ℤ◌, ◌-ℤ◌, ◌≤ℤ◌, ◌<ℤ◌, unsigned_abs}
use Rattle.std.proofs.lemmas.Bool.{eqb-true}
use Rattle.std.proofs.lemmas.Int.{by_lt_z}
use Rattle.gtd_calendar.specs.Calendar.{first_day}
use Rattle.gtd_calendar.specs.ComputedDates.{year_of, month_of, day_of_month}
use Rattle.gtd_calendar.specs.ComputedFields.{day_fields}
use Rattle.gtd_calendar.specs.facts.DateLemmas.{date_of-is, date_of-only, month_length_bounds}
use Rattle.gtd_calendar.specs.facts.Signed.{signed_arith, one_part}
use Rattle.gtd_calendar.specs.facts.YearLemmas.{first_day-more, year_of-is}
use Rattle.gtd_recur.specs.FieldMatches.{HoldsOnDay}
use Rattle.gtd_calendar.specs.declared.day.DayFields.{DayFields}
use Rattle.gtd_hours.specs.Cost.{goes_on}
use Rattle.gtd_hours.specs.Opening.{HoldsOn}
use Rattle.gtd_hours.specs.Yearly.{IsMonthDayOf, IsOfDays}
use Rattle.gtd_hours.specs.declared.hours.Selector.{Selector}
use Rattle.gtd_hours.specs.declared.hours.Selector.TheVariants as selector
use Rattle.gtd_hours.specs.declared.hours.YearlyDays.{YearlyDays}
use Rattle.gtd_hours_selectors.specs.Days.{IsOfNextYears, begins_yearly, on_month_day}
use Rattle.gtd_hours_leaves.specs.Leaves.{AreDayParts, HasNumberWithin}
use Rattle.gtd_hours_leaves.specs.declared.level.Level.TheVariants.{Year}

-- ---- days of each year

to_month_day : (mo d : ℕ) (n : ℤ) → HoldsOnDay (on_month_day mo d) (day_fields n) → IsMonthDayOf mo d n
to_month_day mo d n x =
    let e : month_of n ≡ mo = sym x.month in
    let f : day_of_month n ≡ d = sym x.day in
    (year_of n, rw (e, f) at (date_of-is n))

from_month_day : (mo d : ℕ) (n : ℤ) → IsMonthDayOf mo d n → HoldsOnDay (on_month_day mo d) (day_fields n)
from_month_day mo d n h =
    let only = date_of-only n h.0 mo d h.1 in
    record { year = tt; month = only.1; week = tt; day = only.2; nth = tt; nth_back = tt; weekdays = inl refl }

pub days_hold : (e : Type 0) (x : YearlyDays) (n : ℤ)
    → (e ↔ ((k : ℕ) × (k < x.days) × HoldsOnDay (on_month_day x.month x.day) (day_fields (n -ℤ pos k))))
    → e ↔ IsOfDays x.month x.day x.days n
days_hold e x n all = (
  (λ h. let a = all.0 h in (a.0, a.1, to_month_day x.month x.day (n -ℤ pos a.0) a.2)),
  (λ h. all.1 (h.0, h.1, from_month_day x.month x.day (n -ℤ pos h.0) h.2)),
)

pub month_day_parts : (x : YearlyDays) → AreDayParts (on_month_day x.month x.day)
month_day_parts x =
    let date = x.in_range.4 in
    let long = (month_length_bounds (pos 2001) x.month).0 in
    let d = date.1.1 in
    record {
      year = tt;
      month = (date.0.0, date.0.1);
      week = tt;
      day = (date.1.0, omega (arith, long, d));
      nth = tt;
      nth_back = tt;
      weekdays = omega arith;
    }

-- ---- the days of years

in_order : (a b : ℤ) → a ≤ℤ b → first_day a ≤ℤ first_day b
in_order a b h =
    by_lt_z a b (λ lt. first_day-more a b lt)
    (λ ge. let e : a ≡ b = omega (arith, signed_arith, h, ge) in rw e (omega (arith, signed_arith)))

-- day n is one of these years
abbrev pub IsInYears : ℕ → ℕ → ℤ → Type 0
IsInYears first last n = (first_day (pos first) ≤ℤ n) × (n <ℤ first_day (pos (last + 1)))

pub years_hold : (first last : ℕ) (n : ℤ) → HasNumberWithin Year first last n ↔ IsInYears first last n
years_hold first last n = (
  (λ x.
      let y : ℤ = year_of n in
      let at : y ≡ pos x.0 = x.3 in
      let lies = year_of-is n in
      let low = in_order (pos first) y (let l = x.1 in omega (arith, signed_arith, at, l)) in
      let high = in_order (y +ℤ pos 1) (pos (last + 1)) (let l = x.2 in omega (arith, signed_arith, at, l)) in
      (through (first_day (pos first)) (first_day y) n low lies.0, before n (first_day (y +ℤ pos 1)) _ lies.1 high)),
  (λ h.
      let y : ℤ = year_of n in
      let lies = year_of-is n in
      let low : pos first ≤ℤ y = by_lt_z y (pos first)
      (λ lt. let c = in_order (y +ℤ pos 1) (pos first) (omega (arith, signed_arith, lt)) in
      absurd (apart n (first_day (y +ℤ pos 1)) (first_day (pos first)) lies.1 c h.0)) (λ ge. ge) in
      let high : y <ℤ pos (last + 1) = by_lt_z y (pos (last + 1)) (λ lt. lt)
      (λ ge. let c = in_order (pos (last + 1)) y ge in
      absurd (apart n (first_day (pos (last + 1))) (first_day y) h.1 c lies.0)) in
      let part = one_part y in (
        unsigned_abs y,
        omega (arith, signed_arith, part, low),
        omega (arith, signed_arith, part, low, high),
        omega (arith, signed_arith, part, low),
      )),
)
  where
    through : (a b n : ℤ) → a ≤ℤ b → b ≤ℤ n → a ≤ℤ n
    through a b n p q = omega (arith, signed_arith, p, q)

    before : (n a b : ℤ) → n <ℤ a → a ≤ℤ b → n <ℤ b
    before n a b p q = omega (arith, signed_arith, p, q)

    apart : (n a b : ℤ) → n <ℤ a → a ≤ℤ b → b ≤ℤ n → ⊥
    apart n a b p q r = omega (arith, signed_arith, p, q, r)

-- ---- the next selector

both_true : (a b : Bool) → (a && b) ≡ true → (a ≡ true) × (b ≡ true)
both_true true true e = (refl, refl)
both_true true false e = absurd cc
both_true false b e = absurd cc

-- Where it has days of the same years, these are the years.
pub next_years : (x : YearlyDays) (more : List Selector) → goes_on x more ≡ true
    → (begins_yearly more ≡ true) × ((n : ℤ) → IsOfNextYears more n ↔ IsInYears x.first x.last n)
next_years x [] e = absurd cc
next_years x (selector.Yearly y ∷ more) e =
    let both = both_true (x.first == y.first) (x.last == y.last) e in
    let first : x.first ≡ y.first = eqb-true x.first y.first both.0 in
    let last : x.last ≡ y.last = eqb-true x.last y.last both.1 in (
      refl,
      λ n. (
        (λ h. subst (λ (k : ℕ). IsInYears k x.last n) (sym first) (subst (λ (k : ℕ). IsInYears y.first k n) (sym last) h)),
        (λ h. subst (λ (k : ℕ). IsInYears y.first k n) last (subst (λ (k : ℕ). IsInYears k x.last n) first h)),
      ),
    )
next_years x (selector.Years y ∷ more) e = absurd cc
next_years x (selector.Months y ∷ more) e = absurd cc
next_years x (selector.Dates y ∷ more) e = absurd cc
next_years x (selector.Dated y ∷ more) e = absurd cc
next_years x (selector.Weeks y ∷ more) e = absurd cc
next_years x (selector.Weekdays y ∷ more) e = absurd cc
next_years x (selector.Nth y ∷ more) e = absurd cc
next_years x (selector.NthBack y ∷ more) e = absurd cc
next_years x (selector.Moved y ∷ more) e = absurd cc
next_years x (selector.Moving y ∷ more) e = absurd cc

-- ---- what is united so far

-- a selector of days that come each year holds on those of them that lie in its years
pub yearly_is : (x : YearlyDays) (n : ℤ) (f : DayFields)
    → HoldsOn (selector.Yearly x) n f ↔ (IsInYears x.first x.last n × IsOfDays x.month x.day x.days n)
yearly_is x n f = ((λ h. ((h.0, h.1), h.2)), (λ h. (h.0.0, h.0.1, h.1)))

pub put_each : (more each day days : Type 0) → (more ↔ (each ⊎ day)) → (day ↔ days) → more ↔ (each ⊎ days)
put_each more each day days put same = (
  (λ h. elim (put.0 h) [ inl e ↦ inl e | inr d ↦ inr (same.0 d) ]),
  (λ h. elim h [ inl e ↦ put.1 (inl e) | inr d ↦ put.1 (inr (same.1 d)) ]),
)

-- Days that come each year are put to those before them, which the same years follow.
pub went_on : (united each more next years holds days rest : Type 0) → (more ↔ (each ⊎ days)) → (next ↔ years)
    → (holds ↔ (years × days)) → (united ⊎ (more × next) ⊎ rest) ↔ (united ⊎ (each × years) ⊎ (holds ⊎ rest))
went_on united each more next years holds days rest put same is = (
  (λ h. elim h [
    | inl u ↦ inl u
    | inr (inl m) ↦ elim (put.0 m.0) [
      | inl e ↦ inr (inl (e, same.0 m.1))
      | inr d ↦ inr (inr (inl (is.1 (same.0 m.1, d))))
    ]
    | inr (inr r) ↦ inr (inr (inr r))
  ]),
  (λ h. elim h [
    | inl u ↦ inl u
    | inr (inl e) ↦ inr (inl (put.1 (inl e.0), same.1 e.1))
    | inr (inr (inl x)) ↦ (let both = is.0 x in inr (inl (put.1 (inr both.1), same.1 both.0)))
    | inr (inr (inr r)) ↦ inr (inr r)
  ]),
)
