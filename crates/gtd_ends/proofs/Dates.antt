-- Dates that no leap day decides: what is computed by months and days is the date that the calendar has.
use Rattle.std.proofs.Common.{◌≡◌, ◌≢◌, ℕ, zero, suc, ◌+◌, ◌-◌, ◌*◌, ◌/◌, ◌%◌, ◌<◌, ◌≤◌, Bool, true, false, cond, min}
use Rattle.std.proofs.Common.{Option, Some, None, refl, sym, ap, subst, ◌∙◌, arith, ℤ, pos, ◌+ℤ◌, ◌-ℤ◌, ◌*ℤ◌}
use Rattle.std.specs.Prelude.{◌==◌, ◌||◌, ◌&&◌, nat_le, nat_lt}
use Rattle.std.proofs.lemmas.Bool.{false≢true, eqb-true, eqb-false, leb-true}
use Rattle.gtd_calendar.specs.Calendar.{IsDateOf, day_number, days_of_months, first_day, is_leap_year, month_length, year_length}
use Rattle.gtd_calendar.specs.Clock.{IsMonthsLater}
use Rattle.gtd_calendar.specs.facts.DateLemmas.{date-unique, days_of_months-next, days_of_months-year, days_of_months-zero}
use Rattle.gtd_calendar.specs.facts.DateLemmas.{month_length_bounds}
use Rattle.gtd_calendar.specs.facts.Signed.{signed_arith}
use Rattle.gtd_calendar.specs.facts.YearLemmas.{first_day-next}
use Rattle.gtd_ends.specs.Dates.{date_at, days_on, least, sure_length}

-- ---- the lengths of months

sure_by : (a l c : Bool) → cond a 28 (cond c 30 31) ≤ cond a (cond l 29 28) (cond c 30 31)
sure_by true true c = omega arith
sure_by true false c = omega arith
sure_by false l true = omega arith
sure_by false l false = omega arith

pub sure_most : (y : ℤ) (m : ℕ) → sure_length m ≤ month_length y m
sure_most y m = sure_by (m == 2) (is_leap_year y) ((m == 4) || (m == 6) || (m == 9) || (m == 11))

pub sure_short : (m : ℕ) → sure_length m ≤ 31
sure_short m = short (m == 2) ((m == 4) || (m == 6) || (m == 9) || (m == 11))
  where
    short : (a c : Bool) → cond a 28 (cond c 30 31) ≤ 31
    short true c = omega arith
    short false true = omega arith
    short false false = omega arith

abbrev length_by : Bool → ℕ → Bool → ℕ
length_by a short c = cond a short (cond c 30 31)

abbrev leap_by : Bool → ℕ
leap_by l = cond l 29 28

same_by : (a l c : Bool) → a ≡ false → length_by a (leap_by l) c ≡ length_by a 28 c
same_by true l c h = absurd (false≢true (sym h))
same_by false l c h = refl

pub sure_is : (y : ℤ) (m : ℕ) → (m == 2) ≡ false → month_length y m ≡ sure_length m
sure_is y m other = same_by (m == 2) (is_leap_year y) ((m == 4) || (m == 6) || (m == 9) || (m == 11)) other

-- ---- the same month

moved : (n f : ℤ) (a d k : ℕ) → 1 ≤ d → n ≡ f +ℤ pos (a + (d - 1)) → n +ℤ pos k ≡ f +ℤ pos (a + (d + k - 1))
moved n f a d k low e = omega (arith, signed_arith, low, e)

pub days_later : (n y : ℤ) (m d k : ℕ) → IsDateOf n y m d → d + k ≤ month_length y m → IsDateOf (n +ℤ pos k) y m (d + k)
unfolding day_number
days_later n y m d k h most =
    ((h.0.0, (omega (arith, h.0.1.0), most)), moved n (first_day y) (days_of_months y (m - 1)) d k h.0.1.0 h.1)

pub day_before : (n y : ℤ) (m d : ℕ) → IsDateOf n y m d → 2 ≤ d → IsDateOf (n -ℤ pos 1) y m (d - 1)
unfolding day_number
day_before n y m d h two =
    ((h.0.0, (omega (arith, two), omega (arith, h.0.1.1))), back n (first_day y) (days_of_months y (m - 1)) d two h.1)
  where
    back : (n f : ℤ) (a d : ℕ) → 2 ≤ d → n ≡ f +ℤ pos (a + (d - 1)) → n -ℤ pos 1 ≡ f +ℤ pos (a + (d - 1 - 1))
    back n f a d two e = omega (arith, signed_arith, two, e)

-- ---- the next month

-- the days before a month, and it
through : (y : ℤ) (m : ℕ) → 1 ≤ m → days_of_months y m ≡ days_of_months y (m - 1) + month_length y m
through y m low =
    let back : m - 1 + 1 ≡ m = omega (arith, low) in
    rw back at (days_of_months-next y (m - 1))

first_later : (y : ℤ) (m : ℕ) → 1 ≤ m → day_number y (m + 1) 1
    ≡ first_day y +ℤ pos (days_of_months y (m - 1) + month_length y m)
unfolding day_number
first_later y m low =
    let same : m + 1 - 1 ≡ m = omega arith in
    rw (same, through y m low)
    (let none : days_of_months y (m - 1) + month_length y m + (1 - 1)
    ≡ days_of_months y (m - 1) + month_length y m = omega arith in
    ap (λ (k : ℕ). first_day y +ℤ pos k) none)

first_of_next : (y : ℤ) → day_number (y +ℤ pos 1) 1 1 ≡ first_day y +ℤ pos (days_of_months y (12 - 1) + month_length y 12)
unfolding day_number
first_of_next y =
    rw (days_of_months-zero (y +ℤ pos 1), first_day-next y, ← days_of_months-year y, through y 12 (omega arith))
    (drop (first_day y) (days_of_months y (12 - 1) + month_length y 12))
  where
    drop : (f : ℤ) (k : ℕ) → f +ℤ pos k +ℤ pos (0 + (1 - 1)) ≡ f +ℤ pos k
    drop f k = omega (arith, signed_arith)

ends : (n f : ℤ) (a d long : ℕ) → 1 ≤ d → d ≤ long → n ≡ f +ℤ pos (a + (d - 1)) → n +ℤ pos (long + 1 - d) ≡ f +ℤ pos (a + long)
ends n f a d long low high e = omega (arith, signed_arith, low, high, e)

below_last : (m : ℕ) → (m ≡ 12 → ⊥) → m ≤ 12 → m < 12
below_last m other high = omega (arith, other, high)

same_year : (y : ℤ) (k : ℕ) → k ≡ 0 → y ≡ y +ℤ pos k
same_year y k e = omega (arith, signed_arith, e)

-- the first of the next month, after the rest of this one
pub next_month : (n y : ℤ) (m d : ℕ) → IsDateOf n y m d
    → IsDateOf (n +ℤ pos (month_length y m + 1 - d)) (y +ℤ pos (m / 12)) (m % 12 + 1) 1
unfolding day_number
next_month n y m d h = by_last (m == 12) refl
  where
    at_end : n +ℤ pos (month_length y m + 1 - d) ≡ first_day y +ℤ pos (days_of_months y (m - 1) + month_length y m)
    at_end = ends n (first_day y) (days_of_months y (m - 1)) d (month_length y m) h.0.1.0 h.0.1.1 h.1

    by_last : (t : Bool) → (m == 12) ≡ t
        → IsDateOf (n +ℤ pos (month_length y m + 1 - d)) (y +ℤ pos (m / 12)) (m % 12 + 1) 1
    by_last true t =
        let last : m ≡ 12 = eqb-true m 12 t in
        let long = (month_length_bounds (y +ℤ pos 1) 1).1 in
        let first : IsDateOf (n +ℤ pos (month_length y m + 1 - d)) (y +ℤ pos 1) 1 1 = (
          (((omega arith), (omega arith)), ((omega arith), omega (arith, long))),
          at_end ∙ ap (λ (k : ℕ). first_day y +ℤ pos (days_of_months y (k - 1) + month_length y k)) last ∙ sym (first_of_next y),
        ) in
        let year : 1 ≡ m / 12 = omega (arith, last) in
        let month : 1 ≡ m % 12 + 1 = omega (arith, last) in
        subst (λ (k : ℕ). IsDateOf (n +ℤ pos (month_length y m + 1 - d)) (y +ℤ pos (m / 12)) k 1) month
        (subst (λ (k : ℕ). IsDateOf (n +ℤ pos (month_length y m + 1 - d)) (y +ℤ pos k) 1 1) year first)
    by_last false t =
        let other = eqb-false m 12 t in
        let high = h.0.0.1 in
        let less : m < 12 = below_last m other high in
        let long = (month_length_bounds y (m + 1)).1 in
        let first : IsDateOf (n +ℤ pos (month_length y m + 1 - d)) y (m + 1) 1 = (
          ((omega arith, omega (arith, less)), (omega arith, omega (arith, long))),
          at_end ∙ sym (first_later y m h.0.0.0),
        ) in
        let month : m + 1 ≡ m % 12 + 1 = omega (arith, less) in
        let year : y ≡ y +ℤ pos (m / 12) = same_year y (m / 12) (omega (arith, less)) in
        subst (λ (k : ℕ). IsDateOf (n +ℤ pos (month_length y m + 1 - d)) (y +ℤ pos (m / 12)) k 1) month
        (subst (λ (z : ℤ). IsDateOf (n +ℤ pos (month_length y m + 1 - d)) z (m + 1) 1) year first)

-- ---- days on

abbrev pub InYear : ℕ × ℕ × ℕ → Type 0
InYear date = (1 ≤ date.1) × (date.1 ≤ 12) × (date.2 ≤ 31)

-- what is computed is a date, and the right one
pub record Arrives (year month day days : ℕ) (date : ℕ × ℕ × ℕ) : Type 0 where
  pub in_year : InYear date
  pub on : (n base : ℤ) → IsDateOf n (base +ℤ pos year) month day → IsDateOf (n +ℤ pos days) (base +ℤ pos date.0) date.1 date.2

none_some : {A : Type 0} (a : A) → None ≡ Some a → ⊥
none_some a e = cc

days_step : (t u : Bool) (ends year month day days : ℕ) (date : ℕ × ℕ × ℕ) → nat_le (day + days) (sure_length month) ≡ t
    → (month == 2) ≡ u → 1 ≤ month → month ≤ 12
    → (days_on ends (year + month / 12) (month % 12 + 1) 1 (day + days - sure_length month - 1) ≡ Some date
    → Arrives (year + month / 12) (month % 12 + 1) 1 (day + days - sure_length month - 1) date)
    → cond t (Some (year, month, day + days))
    (cond u None (days_on ends (year + month / 12) (month % 12 + 1) 1 (day + days - sure_length month - 1))) ≡ Some date
    → Arrives year month day days date
days_step true u ends year month day days date t two low high more e =
    let most = leb-true (day + days) (sure_length month) t in
    let short = sure_short month in
    let whole : Arrives year month day days (year, month, day + days) = record {
      in_year = (low, high, omega (arith, most, short));
      on = λ n base h. days_later n (base +ℤ pos year) month day days h
          (let sure = sure_most (base +ℤ pos year) month in omega (arith, most, sure));
    } in
    subst (λ (d : ℕ × ℕ × ℕ). Arrives year month day days d) (some_date (year, month, day + days) date e) whole
  where
    some_date : (a b : ℕ × ℕ × ℕ) → Some a ≡ Some b → a ≡ b
    some_date a b e = cc
days_step false true ends year month day days date t two low high more e = absurd (none_some date e)
days_step false false ends year month day days date t two low high more e =
    let rest = more e in
    record {
      in_year = rest.in_year;
      on = λ n base h.
          let long = sure_is (base +ℤ pos year) month two in
          let next = next_month n (base +ℤ pos year) month day h in
          let moved = subst (λ (y : ℤ). IsDateOf (n +ℤ pos (month_length (base +ℤ pos year) month + 1 - day)) y
          (month % 12 + 1) 1)
          (later base year (month / 12)) next in
          subst (λ (k : ℤ). IsDateOf k (base +ℤ pos date.0) date.1 date.2)
          (add n (month_length (base +ℤ pos year) month) (sure_length month) day days long h.0.1.1 (over (day + days)
          (sure_length month) t))
          (rest.on (n +ℤ pos (month_length (base +ℤ pos year) month + 1 - day)) base moved);
    }
  where
    later : (base : ℤ) (a b : ℕ) → base +ℤ pos a +ℤ pos b ≡ base +ℤ pos (a + b)
    later base a b = omega (arith, signed_arith)

    over : (a b : ℕ) → nat_le a b ≡ false → b < a
    over a b e = grind (arith, e)

    add : (n : ℤ) (long sure day days : ℕ) → long ≡ sure → day ≤ long → sure < day + days
        → n +ℤ pos (long + 1 - day) +ℤ pos (day + days - sure - 1) ≡ n +ℤ pos days
    add n long sure day days e most past = omega (arith, signed_arith, e, most, past)

pub days_arrive : (ends year month day days : ℕ) (date : ℕ × ℕ × ℕ) → 1 ≤ month → month ≤ 12
    → days_on ends year month day days ≡ Some date → Arrives year month day days date
unfolding days_on
days_arrive zero year month day days date low high e = absurd (none_some date e)
days_arrive (suc ends) year month day days date low high e =
    days_step (nat_le (day + days) (sure_length month)) (month == 2) ends year month day days date refl refl low high
    (λ rest. days_arrive ends (year + month / 12) (month % 12 + 1) 1 (day + days - sure_length month - 1) date (omega arith)
    (omega arith) rest) e

-- ---- months on

least_is : (a b : ℕ) → least a b ≡ min b a
least_is a b = by_test (nat_lt a b) refl
  where
    by_test : (t : Bool) → nat_lt a b ≡ t → cond t a b ≡ min b a
    by_test t e = grind (arith, e)

least_most : (a b : ℕ) → least a b ≤ a
least_most a b = by_test (nat_lt a b) refl
  where
    by_test : (t : Bool) → nat_lt a b ≡ t → cond t a b ≤ a
    by_test true e = omega arith
    by_test false e = grind (arith, e)

low_by : (a c : Bool) → 28 ≤ length_by a 28 c
low_by true c = omega arith
low_by false true = omega arith
low_by false false = omega arith

sure_low : (m : ℕ) → 28 ≤ sure_length m
sure_low m = low_by (m == 2) ((m == 4) || (m == 6) || (m == 9) || (m == 11))

both_least : (d a b : ℕ) → d ≤ 28 → 28 ≤ a → 28 ≤ b → min d a ≡ min d b
both_least d a b few la lb = omega (arith, few, la, lb)

-- where a leap day does not decide, the day is cut to the length that is sure
cut : (y : ℤ) (m d : ℕ) (t : Bool) → (m == 2) ≡ t → (m ≡ 2 → d ≤ 28) → min d (month_length y m) ≡ least (sure_length m) d
cut y m d true t short =
    sym (least_is (sure_length m) d
    ∙ both_least d (sure_length m) (month_length y m) (short (eqb-true m 2 t)) (sure_low m) (month_length_bounds y m).1)
cut y m d false t short = sym (least_is (sure_length m) d ∙ ap (λ (k : ℕ). min d k) (sym (sure_is y m t)))

pub record Reaches (month day months : ℕ) (date : ℕ × ℕ × ℕ) : Type 0 where
  pub in_year : InYear date
  pub on : (n r year : ℤ) → IsDateOf n year month day → IsMonthsLater n months r → IsDateOf r (year +ℤ pos date.0) date.1 date.2

-- the year and the month that are reached
reached_at : (y z : ℤ) (m l k : ℕ) → 1 ≤ m → m ≤ 12 → 1 ≤ l → l ≤ 12 → pos 12 *ℤ z +ℤ pos l ≡ pos 12 *ℤ y +ℤ pos (m + k)
    → (z ≡ y +ℤ pos ((m - 1 + k) / 12)) × (l ≡ (m - 1 + k) % 12 + 1)
reached_at y z m l k lm hm ll hl e = (omega (arith, signed_arith, lm, ll, hl, e), omega (arith, signed_arith, lm, ll, hl, e))

date_on : (month day months : ℕ) → ((month - 1 + months) % 12 + 1 ≡ 2 → day ≤ 28) → (n r year : ℤ) → IsDateOf n year month day
    → IsMonthsLater n months r → IsDateOf r (year +ℤ pos ((month - 1 + months) / 12)) ((month - 1 + months) % 12 + 1)
    (least (sure_length ((month - 1 + months) % 12 + 1)) day)
date_on month day months short n r year h (y, z, m, l, d, from, sum, to) =
    let only = date-unique n y year m d month day from h in
    let at = reached_at y z m l months from.0.0.0 from.0.0.1 to.0.0.0 to.0.0.1 sum in
    let year_is : z ≡ year +ℤ pos ((month - 1 + months) / 12) =
    at.0 ∙ ap (λ (k : ℕ). y +ℤ pos ((k - 1 + months) / 12)) only.1
    ∙ ap (λ (k : ℤ). k +ℤ pos ((month - 1 + months) / 12)) only.0 in
    let month_is : l ≡ (month - 1 + months) % 12 + 1 =
    at.1 ∙ ap (λ (k : ℕ). (k - 1 + months) % 12 + 1) only.1 in
    let cut_is : min d (month_length z l) ≡ least (sure_length l) day =
    ap (λ (k : ℕ). min k (month_length z l)) only.2 ∙ cut z l day (l == 2) refl (λ two. short (sym month_is ∙ two)) in
    let one = subst (λ (k : ℕ). IsDateOf r z l k) cut_is to in
    let two = subst (λ (k : ℕ). IsDateOf r z k (least (sure_length k) day)) month_is one in
    subst (λ (k : ℤ). IsDateOf r k ((month - 1 + months) % 12 + 1) (least (sure_length ((month - 1 + months) % 12 + 1)) day))
    year_is two

months_step : (t : Bool) (month day months : ℕ) (date : ℕ × ℕ × ℕ)
    → (((month - 1 + months) % 12 == 1) && nat_lt 28 day) ≡ t
    → cond t None (Some (
      (month - 1 + months) / 12,
      (month - 1 + months) % 12 + 1,
      least (sure_length ((month - 1 + months) % 12 + 1)) day,
    )) ≡ Some date → Reaches month day months date
months_step true month day months date t e = absurd (none_some date e)
months_step false month day months date t e =
    let count = month - 1 + months in
    let most = least_most (sure_length (count % 12 + 1)) day in
    let short = sure_short (count % 12 + 1) in
    let whole : Reaches month day months (count / 12, count % 12 + 1, least (sure_length (count % 12 + 1)) day) = record {
      in_year = (omega arith, omega arith, omega (arith, most, short));
      on = date_on month day months (λ two. few (count % 12) day t two);
    } in
    subst (λ (d : ℕ × ℕ × ℕ). Reaches month day months d)
    (some_date (count / 12, count % 12 + 1, least (sure_length (count % 12 + 1)) day) date e) whole
  where
    some_date : (a b : ℕ × ℕ × ℕ) → Some a ≡ Some b → a ≡ b
    some_date a b e = cc

    few : (m day : ℕ) → ((m == 1) && nat_lt 28 day) ≡ false → m + 1 ≡ 2 → day ≤ 28
    few m day e two = by_one (m == 1) (nat_lt 28 day) refl refl
      where
        by_one : (a b : Bool) → (m == 1) ≡ a → nat_lt 28 day ≡ b → day ≤ 28
        by_one a b ea eb = grind (arith, e, two)

pub months_reach : (month day months : ℕ) (date : ℕ × ℕ × ℕ) → date_at (month - 1 + months) day ≡ Some date
    → Reaches month day months date
months_reach month day months date e =
    months_step (((month - 1 + months) % 12 == 1) && nat_lt 28 day) month day months date refl e

-- ---- the last day of the month before

back_one : (n f : ℤ) (a k : ℕ) → 1 ≤ k → n ≡ f +ℤ pos (a + k) → n -ℤ pos 1 ≡ f +ℤ pos (a + (k - 1))
back_one n f a k some e = omega (arith, signed_arith, some, e)

pub month_before : (n y : ℤ) (m : ℕ) → IsDateOf n y m 1 → 2 ≤ m → (m - 1 == 2) ≡ false
    → IsDateOf (n -ℤ pos 1) y (m - 1) (sure_length (m - 1))
unfolding day_number
month_before n y m h two other =
    let back : m ≡ m - 1 + 1 = omega (arith, two) in
    let long = sure_is y (m - 1) other in
    let bounds = month_length_bounds y (m - 1) in
    let is = h.1 ∙ ap (λ (k : ℕ). day_number y k 1) back ∙ first_later y (m - 1) (omega (arith, two)) in
    let date : IsDateOf (n -ℤ pos 1) y (m - 1) (month_length y (m - 1)) = (
      ((omega (arith, two), omega (arith, h.0.0.1)), (omega (arith, bounds.1), omega arith)),
      back_one n (first_day y) (days_of_months y (m - 1 - 1)) (month_length y (m - 1)) (omega (arith, bounds.1)) is,
    ) in
    subst (λ (k : ℕ). IsDateOf (n -ℤ pos 1) y (m - 1) k) long date

pub year_before : (n y : ℤ) → IsDateOf n (y +ℤ pos 1) 1 1 → IsDateOf (n -ℤ pos 1) y 12 31
unfolding day_number
year_before n y h = (
  ((omega arith, omega arith), (omega arith, omega arith)),
  back_one n (first_day y) (days_of_months y (12 - 1)) 31 (omega arith) (h.1 ∙ first_of_next y),
)
