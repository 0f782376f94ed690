-- A start matches exactly the seconds at which it begins.
use Rattle.std.proofs.Common.{◌≡◌, ◌↔◌, ℕ, ◌-◌, ◌/◌, ◌%◌, ◌^◌, inl, inr, Bool, true, false, ◌||◌, ◌==◌, cond, Option, Some, None}
use Rattle.std.proofs.Common.{is_some, refl, sym, subst, ℤ, pos, IfSome}
use Rattle.std.proofs.lemmas.Bool.{and_parts, and_from, eqb-true, eq-eqb}
use Rattle.gtd_core.specs.declared.start.StartParts.{StartParts}
use Rattle.gtd_core.specs.Seconds.{day_of_second}
use Rattle.gtd_calendar.specs.Calendar.{IsWeekOf, weekday_of}
use Rattle.gtd_calendar.specs.Clock.{second_of_day}
use Rattle.gtd_calendar.specs.ComputedDates.{day_of_month, month_of, week_of, week_year_of, year_of}
use Rattle.gtd_calendar.specs.ComputedFields.{day_fields}
use Rattle.gtd_calendar.specs.facts.DateLemmas.{date_of-is, date_of-only}
use Rattle.gtd_calendar.specs.facts.TimeLemmas.{time_of-is, time_of-only}
use Rattle.gtd_calendar.specs.facts.WeekLemmas.{week_of-is, week_of-only}
use Rattle.gtd_recur.specs.Begins.{agrees, agrees_or_least, begins, begins_at, begins_on, gives_clock, gives_day}
use Rattle.gtd_recur.specs.Begins.{year_agrees_with}
use Rattle.gtd_recur.specs.FieldMatches.{MatchesFields}
use Rattle.gtd_recur.specs.Membership.{HasNumber, HoldsOn, Matches}
use Rattle.gtd_recur.specs.facts.MatchLemmas.{agrees-from, agrees-to, begins-matches_fields, or-from, or-to, place-from, place-to}
use Rattle.gtd_recur.specs.facts.MatchLemmas.{rest-from, rest-to, year-from, year-to}

-- a level of one field
number-to : (given : Option ℕ) (finer : Bool) (least n : ℕ) → agrees_or_least given finer least n ≡ true
    → HasNumber given finer least n
number-to (Some x) finer least n e = sym (eqb-true x n e)
number-to None true least n e = λ none. cc
number-to None false least n e = λ none. sym (eqb-true least n e)

number-from : (given : Option ℕ) (finer : Bool) (least n : ℕ) → HasNumber given finer least n
    → agrees_or_least given finer least n ≡ true
number-from (Some x) finer least n h = eq-eqb x n (sym h)
number-from None true least n h = refl
number-from None false least n h = eq-eqb least n (sym (h refl))

-- the year, and that of the week
year_in-to : (week year : Option ℕ) (of y : ℤ) → year_agrees_with year (cond (is_some week) of y) ≡ true
    → is_some week ≡ false → IfSome year (λ x. pos x ≡ y)
year_in-to None year of y e none = year-to year y e
year_in-to (Some w) year of y e none = cc

week_in-to : (week year : Option ℕ) (n y : ℤ) → agrees week (week_of n) ≡ true
    → year_agrees_with year (cond (is_some week) (week_year_of n) y) ≡ true
    → IfSome week (λ w. (of : ℤ) × IsWeekOf n of w × IfSome year (λ x. pos x ≡ of))
week_in-to None year n y e f = tt
week_in-to (Some w) year n y e f = (
  week_year_of n,
  subst (λ (k : ℕ). IsWeekOf n (week_year_of n) k) (sym (eqb-true w (week_of n) e)) (week_of-is n),
  year-to year (week_year_of n) f,
)

week_in-from : (week year : Option ℕ) (n y : ℤ) → (is_some week ≡ false → IfSome year (λ x. pos x ≡ y))
    → IfSome week (λ w. (of : ℤ) × IsWeekOf n of w × IfSome year (λ x. pos x ≡ of))
    → (agrees week (week_of n) ≡ true) × (year_agrees_with year (cond (is_some week) (week_year_of n) y) ≡ true)
week_in-from None year n y in_year in_week = (refl, year-from year y (in_year refl))
week_in-from (Some w) year n y in_year in_week =
    let only = week_of-only n in_week.0 w in_week.1 in (
      eq-eqb w (week_of n) only.1,
      year-from year (week_year_of n) (subst (λ (of : ℤ). IfSome year (λ x. pos x ≡ of)) only.0 in_week.2),
    )

-- the levels down to the day
holds-to : (p : StartParts) (n : ℤ) → begins_on p (day_fields n) ≡ true → HoldsOn p n
holds-to p n e =
    let a = and_parts _ _ e in
    let b = and_parts _ _ a.1 in
    let c = and_parts _ _ b.1 in
    let d = and_parts _ _ c.1 in
    let f = and_parts _ _ d.1 in
    let g = and_parts _ _ f.1 in
    let h = and_parts _ _ g.1 in
    record {
      year = year_of n;
      month = month_of n;
      day = day_of_month n;
      date = date_of-is n;
      in_year = year_in-to p.week p.year (week_year_of n) (year_of n) a.0;
      in_week = week_in-to p.week p.year n (year_of n) c.0 a.0;
      in_month = number-to p.month (is_some p.week || (gives_day p || gives_clock p)) 1 (month_of n) b.0;
      on_day = agrees-to p.day (day_of_month n) d.0;
      nth = place-to p.nth (day_fields n).nth (weekday_of n) f.0;
      nth_back = place-to p.nth_back (day_fields n).nth_back (weekday_of n) g.0;
      weekdays = elim (or-to (p.weekdays == 0) (p.weekdays / 2 ^ (weekday_of n - 1) % 2 == 1) h.0) [
        | inl none ↦ inl (eqb-true p.weekdays 0 none)
        | inr one ↦ inr (eqb-true (p.weekdays / 2 ^ (weekday_of n - 1) % 2) 1 one)
      ];
      least = rest-to (gives_day p) (gives_clock p)
          (cond (is_some p.week) (weekday_of n == 2) (day_of_month n == 1)) h.1;
    }

holds-from : (p : StartParts) (n : ℤ) → HoldsOn p n → begins_on p (day_fields n) ≡ true
holds-from p n h =
    let date = date_of-only n h.year h.month h.day h.date in
    let week = week_in-from p.week p.year n (year_of n) (rw date.0 at h.in_year) h.in_week in
    and_from _ _ week.1
    (and_from _ _ (number-from p.month (is_some p.week || (gives_day p || gives_clock p)) 1 (month_of n)
    (rw date.1 at h.in_month))
    (and_from _ _ week.0
    (and_from _ _ (agrees-from p.day (day_of_month n) (rw date.2 at h.on_day))
    (and_from _ _ (place-from p.nth (day_fields n).nth (weekday_of n) (rw date.2 at h.nth))
    (and_from _ _ (place-from p.nth_back (day_fields n).nth_back (weekday_of n) (rw (date.0, date.1, date.2) at h.nth_back))
    (and_from _ _ (or-from (p.weekdays == 0) (p.weekdays / 2 ^ (weekday_of n - 1) % 2 == 1) (elim (h.weekdays) [
      | inl none ↦ inl (eq-eqb p.weekdays 0 none)
      | inr one ↦ inr (eq-eqb (p.weekdays / 2 ^ (weekday_of n - 1) % 2) 1 one)
    ]))
    (rest-from (gives_day p) (gives_clock p) (cond (is_some p.week) (weekday_of n == 2) (day_of_month n == 1))
    (rw date.2 at h.least))))))))

-- a start that begins at a second matches it
begins-to : (p : StartParts) (s : ℤ) → begins p s ≡ true → Matches p s
unfolding begins
begins-to p s e =
    let parts = and_parts _ _ e in
    let k = second_of_day s in
    let outer = and_parts _ _ parts.1 in
    let inner = and_parts _ _ outer.1 in (
      day_of_second s,
      k / 3600,
      k / 60 % 60,
      k % 60,
      time_of-is s,
      holds-to p (day_of_second s) parts.0,
      number-to p.hour (is_some p.minute || is_some p.second) 0 (k / 3600) outer.0,
      number-to p.minute (is_some p.second) 0 (k / 60 % 60) inner.0,
      number-to p.second false 0 (k % 60) inner.1,
    )

-- and one that matches it begins at it
clock-from : (p : StartParts) (k h m s : ℕ) → h ≡ k / 3600 → m ≡ k / 60 % 60 → s ≡ k % 60
    → HasNumber p.hour (is_some p.minute || is_some p.second) 0 h → HasNumber p.minute (is_some p.second) 0 m
    → HasNumber p.second false 0 s → begins_at p k ≡ true
clock-from p k h m s e f g hour minute second =
    and_from _ _ (number-from p.hour (is_some p.minute || is_some p.second) 0 (k / 3600) (rw e at hour))
    (and_from _ _ (number-from p.minute (is_some p.second) 0 (k / 60 % 60) (rw f at minute))
    (number-from p.second false 0 (k % 60) (rw g at second)))

begins-from : (p : StartParts) (s : ℤ) → Matches p s → begins p s ≡ true
unfolding begins
begins-from p s m =
    let time = time_of-only s m.0 m.1 m.2 m.3 m.4 in
    and_from _ _ (holds-from p (day_of_second s) (rw time.0 at m.5))
    (clock-from p (second_of_day s) m.1 m.2 m.3 time.1 time.2 time.3 m.6 m.7 m.8)

pub begins-matches : (p : StartParts) (s : ℤ) → (begins p s ≡ true) ↔ Matches p s
begins-matches p s = (begins-to p s, begins-from p s)

-- by the fields of days, a start matches the same seconds
pub matches-fields : (p : StartParts) (s : ℤ) → Matches p s ↔ MatchesFields p s
matches-fields p s =
    let dates = begins-matches p s in
    let fields = begins-matches_fields p s in
    ((λ m. fields.0 (dates.1 m)), (λ m. dates.0 (fields.1 m)))
