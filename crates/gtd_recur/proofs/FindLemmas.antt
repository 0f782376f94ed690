-- Days on which a start does not begin.
use Rattle.std.proofs.Common.{neg_ℤ, ◌≡◌, ℕ, zero, suc, ◌+◌, ◌-◌, ◌*◌, ◌/◌, ◌<◌, ◌≤◌, ◌⊎◌, inl, inr, Bool, true, false, Option}
use Rattle.std.proofs.Common.{Some, None}
use Rattle.std.proofs.Common.{◌≢◌, refl, sym, arith, ℤ, pos, ◌+ℤ◌, ◌-ℤ◌, ◌*ℤ◌, ◌<ℤ◌, ◌≤ℤ◌, is_some, ◌||◌, not, ◌==◌, unsigned_abs}
use Rattle.std.proofs.Common.{cond}
use Rattle.std.specs.Option.{unwrap_or}
use Rattle.std.specs.Int.{int_div_euclid, int_rem_euclid}
use Rattle.std.proofs.lemmas.Bool.{and_parts, and_from, both_ways, false_from_ne_true, cases_lt, eqb-true}
use Rattle.std.proofs.lemmas.Bool.Decides.{Decides-int_eq}
use Rattle.std.proofs.lemmas.Int.{by_lt_z}
use Rattle.gtd_core.specs.Limits.{horizons_end, first_window_day}
use Rattle.gtd_core.specs.declared.start.StartParts.{StartParts}
use Rattle.gtd_calendar.specs.facts.Signed.{signed_arith, one_part}
use Rattle.gtd_calendar.specs.facts.DateLemmas.{date_of-is, date_of-only, month_length_bounds, days_of_months-next}
use Rattle.gtd_calendar.specs.facts.DateLemmas.{days_of_months-year, days_of_months-zero}
use Rattle.gtd_calendar.specs.facts.OrderLemmas.{year_of-calendar}
use Rattle.gtd_calendar.specs.facts.WeekLemmas.{week_of-is}
use Rattle.gtd_calendar.specs.facts.YearLemmas.{first_day-next, first_day-more, year_of-is}
use Rattle.gtd_calendar.specs.Calendar.{IsCalendarYear, day_number, days_of_months, first_day, month_length}
use Rattle.gtd_calendar.specs.Calendar.{thursday_of, weekday_of, year_length}
use Rattle.gtd_calendar.specs.ComputedDates.{year_of, month_of, day_of_month, week_of, week_year_of}
use Rattle.gtd_calendar.specs.ComputedFields.{day_fields}
use Rattle.gtd_calendar.specs.declared.day.DayFields.{DayFields}
use Rattle.gtd_recur.specs.Begins.{agrees, begins_on, gives_clock, gives_day, least_day, place_agrees, weekday_agrees}
use Rattle.gtd_recur.specs.Begins.{year_agrees}
use Rattle.gtd_recur.specs.Jumps.{monday_of, place_on, weekday_fits, IsMissed, IsMissedBack, IsNextOfWeek, IsLastOfWeek}
use Rattle.gtd_recur.specs.facts.StartsLemmas.{later_by}
use Rattle.gtd_recur.proofs.JumpLemmas.{not_earlier}

-- what holds on a day on which a start begins
pub record BeginsParts (p : StartParts) (f : DayFields) : Type 0 where
  pub year : year_agrees p f ≡ true
  pub week : agrees p.week f.week ≡ true
  pub day : agrees p.day f.day ≡ true
  pub nth : place_agrees p.nth f.nth f.weekday ≡ true
  pub nth_back : place_agrees p.nth_back f.nth_back f.weekday ≡ true
  pub weekday : weekday_agrees p f ≡ true
  pub least : least_day p f ≡ true

pub begun-parts : (p : StartParts) (f : DayFields) → begins_on p f ≡ true → BeginsParts p f
begun-parts p f on =
    let a = and_parts _ _ on in let b = and_parts _ _ a.1 in
    let c = and_parts _ _ b.1 in let d = and_parts _ _ c.1 in
    let e = and_parts _ _ d.1 in let g = and_parts _ _ e.1 in let h = and_parts _ _ g.1 in
    record { year = a.0; week = c.0; day = d.0; nth = e.0; nth_back = g.0; weekday = h.0; least = h.1 }

-- a start begins on no day of a weekday that it excludes
on-place : (given : Option (ℕ × ℕ)) (n weekday : ℕ) → place_agrees given n weekday ≡ true → place_on given weekday ≡ true
on-place None n weekday h = refl
on-place (Some x) n weekday h = (and_parts _ _ h).1

on-monday : (day clock week first : Bool) (weekday : ℕ) → (day || (clock || cond week (weekday == 2) first)) ≡ true
    → (not week || (day || (clock || (weekday == 2)))) ≡ true
on-monday true clock false first weekday h = refl
on-monday true clock true first weekday h = refl
on-monday false true false first weekday h = refl
on-monday false true true first weekday h = refl
on-monday false false false first weekday h = refl
on-monday false false true first weekday h = h

pub fits-weekday : (p : StartParts) (f : DayFields) → begins_on p f ≡ true → weekday_fits p f.weekday ≡ true
fits-weekday p f on =
    let h = begun-parts p f on in
    and_from _ _ h.weekday (and_from _ _ (on-place p.nth f.nth f.weekday h.nth) (and_from _ _
    (on-place p.nth_back f.nth_back f.weekday h.nth_back)
    (on-monday (gives_day p) (gives_clock p) (is_some p.week) (f.day == 1) f.weekday h.least)))

pub off-weekday : (p : StartParts) (n : ℤ) → weekday_fits p (weekday_of n) ≡ false → begins_on p (day_fields n) ≡ false
off-weekday p n off = false_from_ne_true _ (λ on. both_ways _ off (fits-weekday p (day_fields n) on))

-- the dates of the next day, within a month, behind it, and behind the year
next-in_month : (n y : ℤ) (m d : ℕ) → 1 ≤ d → n ≡ day_number y m d → n +ℤ pos 1 ≡ day_number y m (d + 1)
unfolding day_number
next-in_month n y m d low e = is n (first_day y) (days_of_months y (m - 1)) d low e
  where
    is : (n a : ℤ) (k d : ℕ) → 1 ≤ d → n ≡ a +ℤ pos (k + (d - 1)) → n +ℤ pos 1 ≡ a +ℤ pos (k + (d + 1 - 1))
    is n a k d low e = omega (arith, signed_arith)

next-month : (n y : ℤ) (m d : ℕ) → 1 ≤ m → 1 ≤ d → d ≡ month_length y m → n ≡ day_number y m d
    → n +ℤ pos 1 ≡ day_number y (m + 1) 1
unfolding day_number
next-month n y m d from low long e =
    let back : m - 1 + 1 ≡ m = omega arith in
    let behind : m + 1 - 1 ≡ m = omega arith in
    let more = rw back at (days_of_months-next y (m - 1)) in
    rw behind (is n (first_day y) (days_of_months y (m - 1)) (days_of_months y m) d low e (omega (arith, more, long)))
  where
    is : (n a : ℤ) (k l d : ℕ) → 1 ≤ d → n ≡ a +ℤ pos (k + (d - 1)) → l ≡ k + d → n +ℤ pos 1 ≡ a +ℤ pos (l + (1 - 1))
    is n a k l d low e more = omega (arith, signed_arith)

next-year : (n y : ℤ) (d : ℕ) → 1 ≤ d → d ≡ month_length y 12 → n ≡ day_number y 12 d
    → n +ℤ pos 1 ≡ day_number (y +ℤ pos 1) 1 1
unfolding day_number
next-year n y d low long e =
    let more = days_of_months-next y 11 in
    let all = days_of_months-year y in
    rw (first_day-next y, days_of_months-zero (y +ℤ pos 1)) (is n (first_day y) (days_of_months y 11) (year_length y) d low e
    (omega (arith, more, all, long)))
  where
    is : (n a : ℤ) (k l d : ℕ) → 1 ≤ d → n ≡ a +ℤ pos (k + (d - 1)) → l ≡ k + d → n +ℤ pos 1 ≡ (a +ℤ pos l) +ℤ pos (0 + (1 - 1))
    is n a k l d low e more = omega (arith, signed_arith)

-- the day of the month of the next day is one more, or it is the first behind at least 28
dom-next : (n : ℤ) → (day_of_month (n +ℤ pos 1) ≡ day_of_month n + 1) ⊎ ((day_of_month (n +ℤ pos 1) ≡ 1) × (28 ≤ day_of_month n))
dom-next n =
    let date = date_of-is n in
    let y = year_of n in
    let m = month_of n in
    let d = day_of_month n in
    let low = date.0.1.0 in
    let most = date.0.1.1 in
    let long = month_length_bounds y m in
    elim (cases_lt d (month_length y m)) [
      | inl lt ↦ inl (sym (date_of-only (n +ℤ pos 1) y m (d + 1)
          ((date.0.0, (omega arith, omega arith)), next-in_month n y m d low date.1)).2)
      | inr ge ↦
          let last : d ≡ month_length y m = omega arith in
          let many : 28 ≤ d = omega (arith, last, long.1) in
          elim (cases_lt m 12) [
            | inl lt ↦
                let after = month_length_bounds y (m + 1) in
                inr (
                  sym (date_of-only (n +ℤ pos 1) y (m + 1) 1 (
                    (
                      (omega arith, omega arith),
                      (
                        omega arith,
                        omega
                            (arith, after.1),
                      ),
                    ),
                    next-month n y m d date.0.0.0 low last date.1,
                  )).2,
                  many,
                )
            | inr ge ↦
                let december : m ≡ 12 = (let h = date.0.0.1 in omega (arith, h, ge)) in
                let after = month_length_bounds (y +ℤ pos 1) 1 in
                inr (
                  sym (date_of-only (n +ℤ pos 1) (y +ℤ pos 1) 1 1 (
                    ((omega arith, omega arith), (omega arith, omega (arith, after.1))),
                    next-year n y d low (rw december at last) (rw december at date.1),
                  )).2,
                  many,
                )
          ]
    ]

-- so many days later it is so much more, or at least 28 less than that
pub dom-later : (n : ℤ) (j : ℕ) → (day_of_month (n +ℤ pos j) ≡ day_of_month n + j)
    ⊎ (day_of_month (n +ℤ pos j) + 28 ≤ day_of_month n + j)
dom-later n zero = let same : n +ℤ pos 0 ≡ n = omega (arith, signed_arith) in rw same (inl (omega arith))
dom-later n (suc j) =
    let more : n +ℤ pos (suc j) ≡ n +ℤ pos j +ℤ pos 1 = omega (arith, signed_arith) in
    rw more (both (day_of_month n) (day_of_month (n +ℤ pos j)) (day_of_month (n +ℤ pos j +ℤ pos 1)) j (dom-later n j)
    (dom-next (n +ℤ pos j)))
  where
    both : (a b c j : ℕ) → (b ≡ a + j) ⊎ (b + 28 ≤ a + j) → (c ≡ b + 1) ⊎ ((c ≡ 1) × (28 ≤ b))
        → (c ≡ a + suc j) ⊎ (c + 28 ≤ a + suc j)
    both a b c j (inl p) (inl q) = inl (omega (arith, p, q))
    both a b c j (inl p) (inr q) = inr (let q0 = q.0 in let q1 = q.1 in omega (arith, p, q0, q1))
    both a b c j (inr p) (inl q) = inr (omega (arith, p, q))
    both a b c j (inr p) (inr q) = inr (let q0 = q.0 in let q1 = q.1 in omega (arith, p, q0, q1))

-- the same for a later day
dom-between : (a b : ℤ) → a ≤ℤ b → (j : ℕ) × (b ≡ a +ℤ pos j)
    × ((day_of_month b ≡ day_of_month a + j) ⊎ (day_of_month b + 28 ≤ day_of_month a + j))
dom-between a b le = let is = later_by a b le in (unsigned_abs (b -ℤ a), is, rw (← is) at (dom-later a (unsigned_abs (b -ℤ a))))

-- a day between has another day of the month than those from the first to the last
pub off-month : (p : StartParts) (first last : ℕ) (day n : ℤ)
    → ((m : ℤ) → begins_on p (day_fields m) ≡ true → (first ≤ day_of_month m) × (day_of_month m ≤ last))
    → day <ℤ n → ((day_of_month day < first) × (n <ℤ (day +ℤ pos first -ℤ pos (day_of_month day))))
    ⊎ ((last ≤ day_of_month day) × (n <ℤ (day +ℤ pos 28 +ℤ pos first -ℤ pos (day_of_month day))))
    → begins_on p (day_fields n) ≡ false
off-month p first last day n days lt near = false_from_ne_true _ (λ on.
    let far = dom-between day n (omega (arith, signed_arith, lt)) in let in_days = days n on in
    apart (day_of_month day) (day_of_month n) far.0 first last day n far.1 lt near far.2 in_days.0 in_days.1)
  where
    apart : (d e j first last : ℕ) (day n : ℤ) → n ≡ day +ℤ pos j → day <ℤ n
        → ((d < first) × (n <ℤ (day +ℤ pos first -ℤ pos d))) ⊎ ((last ≤ d) × (n <ℤ (day +ℤ pos 28 +ℤ pos first -ℤ pos d)))
        → (e ≡ d + j) ⊎ (e + 28 ≤ d + j) → first ≤ e → e ≤ last → ⊥
    apart d e j first last day n is lt near later low high = grind (arith, signed_arith)

-- the days of the month on which a start begins, by its places in the month
pub nth-days : (p : StartParts) (k w : ℕ) → p.nth ≡ Some (k, w) → (n : ℤ) → begins_on p (day_fields n) ≡ true
    → (7 * k - 6 ≤ day_of_month n) × (day_of_month n ≤ 7 * k)
nth-days p k w is n on =
    let h = rw is at (begun-parts p (day_fields n) on).nth in
    let e = eqb-true _ _ (and_parts _ _ h).0 in
    let low = (date_of-is n).0.1.0 in
    place k (day_of_month n) e low
  where
    place : (k d : ℕ) → k ≡ (d - 1) / 7 + 1 → 1 ≤ d → (7 * k - 6 ≤ d) × (d ≤ 7 * k)
    place k d e low = (omega (arith, e, low), omega (arith, e, low))

pub nth_back-days : (p : StartParts) (k w : ℕ) → p.nth_back ≡ Some (k, w) → (n : ℤ) → begins_on p (day_fields n) ≡ true
    → (29 ≤ 7 * k + day_of_month n) × (1 ≤ day_of_month n) × (day_of_month n + 7 * k ≤ 38)
nth_back-days p k w is n on =
    let h = rw is at (begun-parts p (day_fields n) on).nth_back in
    let e = eqb-true _ _ (and_parts _ _ h).0 in
    let low = (date_of-is n).0.1.0 in
    let high = (date_of-is n).0.1.1 in
    let long = month_length_bounds (year_of n) (month_of n) in
    place k (day_of_month n) (month_length (year_of n) (month_of n)) e low high long.0 long.1
  where
    place : (k d long : ℕ) → k ≡ (long - d) / 7 + 1 → 1 ≤ d → d ≤ long → long ≤ 31 → 28 ≤ long
        → (29 ≤ 7 * k + d) × (1 ≤ d) × (d + 7 * k ≤ 38)
    place k d long e low high most least =
        (omega (arith, e, low, high, most, least), low, omega (arith, e, low, high, most, least))

pub all-days : (n : ℤ) → (1 ≤ day_of_month n) × (day_of_month n ≤ 31)
all-days n = let date = date_of-is n in let long = month_length_bounds (year_of n) (month_of n) in
    let most = date.0.1.1 in (date.0.1.0, omega (arith, most, long.0))

-- A week of a year: its days are from its Monday to its Sunday
thursdays : (n t f : ℤ) (k w : ℕ) → t ≡ (n -ℤ int_rem_euclid (n +ℤ pos 3) (pos 7)) +ℤ pos 3 → t ≡ f +ℤ pos k → w ≡ k / 7 + 1
    → (((pos 7 *ℤ (int_div_euclid (f +ℤ pos 6) (pos 7) +ℤ pos w -ℤ pos 1)) -ℤ pos 3) ≤ℤ n)
    × (n ≤ℤ (((pos 7 *ℤ (int_div_euclid (f +ℤ pos 6) (pos 7) +ℤ pos w -ℤ pos 1)) -ℤ pos 3) +ℤ pos 6))
thursdays n t f k w a b c = (
  omega (arith, signed_arith, one_part (int_rem_euclid (n +ℤ pos 3) (pos 7)), a, b, c),
  omega (arith, signed_arith, one_part (int_rem_euclid (n +ℤ pos 3) (pos 7)), a, b, c),
)

pub week-days : (n : ℤ) → (monday_of (week_year_of n) (week_of n) ≤ℤ n)
    × (n ≤ℤ (monday_of (week_year_of n) (week_of n) +ℤ pos 6))
unfolding thursday_of
week-days n = let h = week_of-is n in
    thursdays n (thursday_of n) (first_day (week_year_of n)) h.k (week_of n) refl h.thursday h.number

-- the weeks of a later year are not earlier
pub monday-order : (y z : ℤ) (w : ℕ) → y ≤ℤ z → monday_of y w ≤ℤ monday_of z w
monday-order y z w le = by_lt_z y z
    (λ lt. order (first_day y) (first_day z) w (first_day-more y z lt))
    (λ ge. let same : z ≡ y = omega (arith, signed_arith) in rw same (omega (arith, signed_arith)))
  where
    order : (f g : ℤ) (w : ℕ) → f ≤ℤ g
        → ((pos 7 *ℤ (int_div_euclid (f +ℤ pos 6) (pos 7) +ℤ pos w -ℤ pos 1)) -ℤ pos 3)
        ≤ℤ ((pos 7 *ℤ (int_div_euclid (g +ℤ pos 6) (pos 7) +ℤ pos w -ℤ pos 1)) -ℤ pos 3)
    order f g w le = omega (arith, signed_arith)

thursday-order : (a n : ℤ) → a ≤ℤ n → thursday_of a ≤ℤ thursday_of n
unfolding thursday_of
thursday-order a n le = omega (
  arith,
  signed_arith,
  one_part (int_rem_euclid (a +ℤ pos 3) (pos 7)),
  one_part (int_rem_euclid (n +ℤ pos 3) (pos 7)),
)

-- nor is the year of a later day's week
pub week_year-order : (a n : ℤ) → a ≤ℤ n → week_year_of a ≤ℤ week_year_of n
week_year-order a n le = by_lt_z (week_year_of n) (week_year_of a)
    (λ lt. absurd (not_earlier (thursday_of a) (thursday_of n) (thursday-order a n le) lt)) (λ ge. ge)

-- the year of a week of the days that are looked at
pub week_year-calendar : (n : ℤ) → first_window_day ≤ℤ n → n ≤ℤ horizons_end → IsCalendarYear (week_year_of n)
unfolding thursday_of
week_year-calendar n low high = year_of-calendar _ (
  omega (arith, signed_arith, one_part (int_rem_euclid (n +ℤ pos 3) (pos 7))),
  omega (arith, signed_arith, one_part (int_rem_euclid (n +ℤ pos 3) (pos 7))),
)

-- the week and the year of a day on which a start with a week begins
pub begun-week : (p : StartParts) (w : ℕ) (n : ℤ) → p.week ≡ Some w → begins_on p (day_fields n) ≡ true → w ≡ week_of n
begun-week p w n is on = eqb-true _ _ (rw is at (begun-parts p (day_fields n) on).week)

begun-inside : (p : StartParts) (w : ℕ) (n : ℤ) → p.week ≡ Some w → begins_on p (day_fields n) ≡ true
    → (monday_of (week_year_of n) w ≤ℤ n) × (n ≤ℤ (monday_of (week_year_of n) w +ℤ pos 6))
begun-inside p w n is on = let same = begun-week p w n is on in rw (sym same) at (week-days n)

pub begun-year : (p : StartParts) (w y : ℕ) (n : ℤ) → p.week ≡ Some w → p.year ≡ Some y → begins_on p (day_fields n) ≡ true
    → pos y ≡ week_year_of n
begun-year p w y n is given on =
    (Decides-int_eq (pos y) (week_year_of n)).0 (rw (is, given) at (begun-parts p (day_fields n) on).year)

-- a start begins on no day before the week
pub off-week : (p : StartParts) (w : ℕ) (y day n next : ℤ) → p.week ≡ Some w → (begins_on p (day_fields n) ≡ true
    → y ≤ℤ week_year_of n)
    → (next ≡ day +ℤ pos 1) ⊎ (next ≡ monday_of y w) → day <ℤ n → n <ℤ next → begins_on p (day_fields n) ≡ false
off-week p w y day n next is year which gt lt = false_from_ne_true _ (λ on.
    let order = monday-order y (week_year_of n) w (year on) in let low = (begun-inside p w n is on).0 in
    elim which [
      | inl e ↦ omega (arith, signed_arith, e, gt, lt)
      | inr e ↦ apart n next (monday_of y w) (monday_of (week_year_of n) w) e lt order low
    ])
  where
    apart : (n next a b : ℤ) → next ≡ a → n <ℤ next → a ≤ℤ b → b ≤ℤ n → ⊥
    apart n next a b e lt le low = omega (arith, signed_arith)

-- nor behind it
pub past-week : (p : StartParts) (w : ℕ) (y n : ℤ) → p.week ≡ Some w → (monday_of y w +ℤ pos 6) <ℤ n
    → begins_on p (day_fields n) ≡ true → week_year_of n ≢ y
past-week p w y n is gt on e = apart n (monday_of y w) gt (rw e at (begun-inside p w n is on)).1
  where
    apart : (n a : ℤ) → (a +ℤ pos 6) <ℤ n → n ≤ℤ (a +ℤ pos 6) → ⊥
    apart n a p q = omega (arith, signed_arith)

-- the first day of a year of the calendar, and the Mondays of its weeks
pub year-bound : (y : ℤ) → IsCalendarYear y → (day_number y 1 1 ≡ first_day y) × (neg_ℤ (pos 62_100) ≤ℤ first_day y)
    × (first_day y ≤ℤ pos 303_200)
unfolding day_number first_day days_of_months
year-bound y h = let a = h.0 in let b = h.1 in
    (omega (arith, signed_arith), omega (arith, signed_arith, a, b), omega (arith, signed_arith, a, b))

-- the next day of a week of the given year
pub given-week : (p : StartParts) (w y : ℕ) (day n end r : ℤ) (o : Option ℤ) → p.week ≡ Some w → p.year ≡ Some y
    → IsNextOfWeek (pos y) w day o → r ≡ unwrap_or o end → first_window_day ≤ℤ day → end ≤ℤ horizons_end
    → day <ℤ n → n <ℤ r → n <ℤ end → begins_on p (day_fields n) ≡ false
given-week p w y day n end r None is given (inl none) e low high gt lt less = false_from_ne_true _ (λ on.
    none (rw (begun-year p w y n is given on) (week_year-calendar n (omega (arith, signed_arith)) (omega (arith, signed_arith)))))
given-week p w y day n end r None is given (inr past) e low high gt lt less = false_from_ne_true _ (λ on.
    past-week p w (pos y) n is (omega (arith, signed_arith, past, gt)) on (sym (begun-year p w y n is given on)))
given-week p w y day n end r (Some next) is given which e low high gt lt less =
    let same : r ≡ next = e in
    off-week p w (pos y) day n next is (λ on. let year = begun-year p w y n is given on in
    omega (arith, signed_arith, year)) which.1 gt (rw same at lt)

-- the next day of a week, where no year is given: in the year of the day's week
pub this-week : (p : StartParts) (w : ℕ) (day n next : ℤ) → p.week ≡ Some w → IsNextOfWeek (week_year_of day) w day (Some next)
    → day <ℤ n → n <ℤ next → begins_on p (day_fields n) ≡ false
this-week p w day n next is which gt lt =
    off-week p w (week_year_of day) day n next is (λ on. week_year-order day n (omega (arith, signed_arith, gt))) which.1 gt lt

-- the Sunday of a week of the next year is behind the day
sunday-behind : (day : ℤ) (w : ℕ) → 1 ≤ w → day <ℤ (monday_of (week_year_of day +ℤ pos 1) w +ℤ pos 6)
unfolding thursday_of
sunday-behind day w low =
    let in_year = year_of-is (thursday_of day) in
    behind day (first_day (week_year_of day +ℤ pos 1)) w low in_year.1
  where
    behind : (n f : ℤ) (w : ℕ) → 1 ≤ w → ((n -ℤ int_rem_euclid (n +ℤ pos 3) (pos 7)) +ℤ pos 3) <ℤ f
        → n <ℤ (((pos 7 *ℤ (int_div_euclid (f +ℤ pos 6) (pos 7) +ℤ pos w -ℤ pos 1)) -ℤ pos 3) +ℤ pos 6)
    behind n f w low lt = omega (arith, signed_arith, one_part (int_rem_euclid (n +ℤ pos 3) (pos 7)))

-- or in the next year, where it is over in this
pub next-week : (p : StartParts) (w : ℕ) (day n end r : ℤ) (o : Option ℤ) → 1 ≤ w → p.week ≡ Some w
    → IsNextOfWeek (week_year_of day) w day None
    → IsNextOfWeek (week_year_of day +ℤ pos 1) w day o → r ≡ unwrap_or o end → first_window_day ≤ℤ day → end ≤ℤ horizons_end
    → day <ℤ n → n <ℤ r → n <ℤ end → begins_on p (day_fields n) ≡ false
next-week p w day n end r o some is (inl never) which e low high gt lt less =
    absurd (never (week_year-calendar day low (omega (arith, signed_arith, gt, less, high))))
next-week p w day n end r None some is (inr over) (inl none) e low high gt lt less = false_from_ne_true _ (λ on.
    let here = week_year-calendar day low (omega (arith, signed_arith, gt, less, high)) in
    let there = week_year-calendar n (omega (arith, signed_arith, gt, low)) (omega (arith, signed_arith, less, high)) in
    let order = week_year-order day n (omega (arith, signed_arith, gt)) in
    let other = past-week p w (week_year_of day) n is (omega (arith, signed_arith, over, gt)) on in
    none (within (week_year_of day) (week_year_of n) here there order other))
  where
    within : (y z : ℤ) → IsCalendarYear y → IsCalendarYear z → y ≤ℤ z → z ≢ y → IsCalendarYear (y +ℤ pos 1)
    within y z a b le ne = by_lt_z y z (λ lt. let a0 = a.0 in let b1 = b.1 in
        (omega (arith, signed_arith, a0), omega (arith, signed_arith, b1, lt)))
        (λ ge. absurd (ne (omega (arith, signed_arith, ge, le))))
next-week p w day n end r None some is (inr over) (inr past) e low high gt lt less =
    absurd (let behind = sunday-behind day w some in omega (arith, signed_arith, behind, past))
next-week p w day n end r (Some next) some is (inr over) which e low high gt lt less =
    let same : r ≡ next = e in
    off-week p w (week_year_of day +ℤ pos 1) day n next is (λ on.
    let order = week_year-order day n (omega (arith, signed_arith, gt)) in
    let other = past-week p w (week_year_of day) n is (omega (arith, signed_arith, over, gt)) on in
    after (week_year_of day) (week_year_of n) order other) which.1 gt (rw same at lt)
  where
    after : (y z : ℤ) → y ≤ℤ z → z ≢ y → (y +ℤ pos 1) ≤ℤ z
    after y z le ne = by_lt_z y z (λ lt. omega (arith, signed_arith, lt))
        (λ ge. absurd (ne (omega (arith, signed_arith, ge, le))))

-- from a day on, where it is missed and those behind it are
pub missed-from : (p : StartParts) (day end next : ℤ) → begins_on p (day_fields day) ≡ false → day <ℤ next
    → ((n : ℤ) → day <ℤ n → n <ℤ next → n <ℤ end → begins_on p (day_fields n) ≡ false) → IsMissed p day end (Some next)
missed-from p day end next here lt none = (
  lt,
  λ n ge less in_end. by_lt_z day n (λ more. none n more less in_end)
      (λ le. let same : n ≡ day = omega (arith, signed_arith, le, ge) in rw same here),
)

-- a Monday of the calendar is small
pub monday-bound : (f q : ℤ) (w : ℕ) → q ≡ int_div_euclid (f +ℤ pos 6) (pos 7) → neg_ℤ (pos 62_100) ≤ℤ f → f ≤ℤ pos 303_200
    → 1 ≤ w → w ≤ 53 → (neg_ℤ (pos 9000) ≤ℤ q) × (q ≤ℤ pos 43_400)
monday-bound f q w e low high a b = (omega (arith, signed_arith), omega (arith, signed_arith))

-- the same backwards
apart-back : (d e j first last : ℕ) (day n : ℤ) → day ≡ n +ℤ pos j → n <ℤ day
    → ((last < d) × ((day +ℤ pos last -ℤ pos d) <ℤ n)) ⊎ ((d ≤ first) × ((day +ℤ pos last -ℤ pos 28 -ℤ pos d) <ℤ n))
    → (d ≡ e + j) ⊎ (d + 28 ≤ e + j) → first ≤ e → e ≤ last → ⊥
apart-back d e j first last day n is lt near later low high = grind (arith, signed_arith)

pub off-month-back : (p : StartParts) (first last : ℕ) (day n : ℤ)
    → ((m : ℤ) → begins_on p (day_fields m) ≡ true → (first ≤ day_of_month m) × (day_of_month m ≤ last))
    → n <ℤ day → ((last < day_of_month day) × ((day +ℤ pos last -ℤ pos (day_of_month day)) <ℤ n))
    ⊎ ((day_of_month day ≤ first) × ((day +ℤ pos last -ℤ pos 28 -ℤ pos (day_of_month day)) <ℤ n))
    → begins_on p (day_fields n) ≡ false
off-month-back p first last day n days lt near = false_from_ne_true _ (λ on.
    let far = dom-between n day (omega (arith, signed_arith, lt)) in let in_days = days n on in
    apart-back (day_of_month day) (day_of_month n) far.0 first last day n far.1 lt near far.2 in_days.0 in_days.1)

-- a start begins on no day behind the week
off-week-back : (p : StartParts) (w : ℕ) (y day n last : ℤ) → p.week ≡ Some w
    → (begins_on p (day_fields n) ≡ true → week_year_of n ≤ℤ y)
    → (last ≡ day -ℤ pos 1) ⊎ (last ≡ monday_of y w +ℤ pos 6) → n <ℤ day → last <ℤ n → begins_on p (day_fields n) ≡ false
off-week-back p w y day n last is year which lt gt = false_from_ne_true _ (λ on.
    let order = monday-order (week_year_of n) y w (year on) in let high = (begun-inside p w n is on).1 in
    elim which [
      | inl e ↦ omega (arith, signed_arith, e, gt, lt)
      | inr e ↦ apart n last (monday_of (week_year_of n) w) (monday_of y w) e gt order high
    ])
  where
    apart : (n last a b : ℤ) → last ≡ b +ℤ pos 6 → last <ℤ n → a ≤ℤ b → n ≤ℤ (a +ℤ pos 6) → ⊥
    apart n last a b e gt le high = omega (arith, signed_arith)

-- nor before it
before-week : (p : StartParts) (w : ℕ) (y n : ℤ) → p.week ≡ Some w → n <ℤ monday_of y w
    → begins_on p (day_fields n) ≡ true → week_year_of n ≢ y
before-week p w y n is lt on e = apart n (monday_of y w) lt (rw e at (begun-inside p w n is on)).0
  where
    apart : (n a : ℤ) → n <ℤ a → a ≤ℤ n → ⊥
    apart n a p q = omega (arith, signed_arith)

pub given-week-back : (p : StartParts) (w y : ℕ) (low day n r : ℤ) (o : Option ℤ) → p.week ≡ Some w → p.year ≡ Some y
    → IsLastOfWeek (pos y) w day o → r ≡ unwrap_or o (low -ℤ pos 1) → first_window_day ≤ℤ low → day <ℤ horizons_end
    → low ≤ℤ n → r <ℤ n → n <ℤ day → begins_on p (day_fields n) ≡ false
given-week-back p w y low day n r None is given (inl none) e least high from gt lt = false_from_ne_true _ (λ on.
    none (rw (begun-year p w y n is given on) (week_year-calendar n (omega (arith, signed_arith)) (omega (arith, signed_arith)))))
given-week-back p w y low day n r None is given (inr past) e least high from gt lt = false_from_ne_true _ (λ on.
    before-week p w (pos y) n is (omega (arith, signed_arith, past, lt)) on (sym (begun-year p w y n is given on)))
given-week-back p w y low day n r (Some last) is given which e least high from gt lt =
    let same : r ≡ last = e in
    off-week-back p w (pos y) day n last is (λ on. let year = begun-year p w y n is given on in
    omega (arith, signed_arith, year)) which.1 lt (rw same at gt)

pub this-week-back : (p : StartParts) (w : ℕ) (day n last : ℤ) → p.week ≡ Some w
    → IsLastOfWeek (week_year_of day) w day (Some last) → n <ℤ day → last <ℤ n → begins_on p (day_fields n) ≡ false
this-week-back p w day n last is which lt gt =
    off-week-back p w (week_year_of day) day n last is (λ on. week_year-order n day (omega
    (arith, signed_arith, lt))) which.1 lt gt

pub week-before : (p : StartParts) (w : ℕ) (low day n r : ℤ) (o : Option ℤ) → p.week ≡ Some w
    → IsLastOfWeek (week_year_of day) w day None → IsLastOfWeek (week_year_of day -ℤ pos 1) w day o
    → r ≡ unwrap_or o (day -ℤ pos 1) → first_window_day ≤ℤ low → day <ℤ horizons_end
    → low ≤ℤ n → r <ℤ n → n <ℤ day → begins_on p (day_fields n) ≡ false
week-before p w low day n r o is (inl never) which e least high from gt lt =
    absurd (never (week_year-calendar day (omega (arith, signed_arith, least, from, lt)) (omega (arith, signed_arith, high))))
week-before p w low day n r None is (inr over) which e least high from gt lt =
    let same : r ≡ day -ℤ pos 1 = e in absurd (omega (arith, signed_arith, same, gt, lt))
week-before p w low day n r (Some last) is (inr over) which e least high from gt lt =
    let same : r ≡ last = e in
    off-week-back p w (week_year_of day -ℤ pos 1) day n last is (λ on.
    let order = week_year-order n day (omega (arith, signed_arith, lt)) in
    let other = before-week p w (week_year_of day) n is (omega (arith, signed_arith, over, lt)) on in
    before (week_year_of day) (week_year_of n) order other) which.1 lt (rw same at gt)
  where
    before : (y z : ℤ) → z ≤ℤ y → z ≢ y → z ≤ℤ (y -ℤ pos 1)
    before y z le ne = by_lt_z z y (λ lt. omega (arith, signed_arith, lt))
        (λ ge. absurd (ne (omega (arith, signed_arith, ge, le))))

pub missed-back : (p : StartParts) (low day before : ℤ) → begins_on p (day_fields day) ≡ false → before <ℤ day
    → ((n : ℤ) → low ≤ℤ n → before <ℤ n → n <ℤ day → begins_on p (day_fields n) ≡ false) → IsMissedBack p low day (Some before)
missed-back p low day before here lt none = (
  lt,
  λ n from gt le. by_lt_z n day (λ less. none n from gt less)
      (λ ge. let same : n ≡ day = omega (arith, signed_arith, ge, le) in rw same here),
)
