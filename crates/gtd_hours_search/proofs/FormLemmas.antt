-- What a selector of one basic domain is found as, by its fields.
use Rattle.std.proofs.Common.{◌≡◌, ◌⊎◌, ℕ, ◌+◌, ◌<◌, ◌≤◌, arith, inl, inr, refl, sym, ◌∙◌}
use Rattle.std.specs.Prelude.{Option, Some, None, IsSome}
use Rattle.std.specs.Option.{IsSomeAnd}
use Rattle.gtd_core.specs.declared.start.StartParts.{StartParts}
use Rattle.gtd_core.specs.declared.duration.DurationParts.{DurationParts}
use Rattle.gtd_hours.specs.Cost.{IsOneStretch, common_length, month_after}
use Rattle.gtd_hours.specs.Ranges.{IsMonth, IsWeeks, IsYears}
use Rattle.gtd_hours.specs.declared.hours.MonthDay.{MonthDay}
use Rattle.gtd_hours.specs.declared.hours.WeekdayPlace.{WeekdayPlace}
use Rattle.gtd_hours.specs.declared.hours.Selector.{Selector}
use Rattle.gtd_hours.specs.declared.hours.Selector.TheVariants as selector
use Rattle.gtd_hours_search.specs.Forms.{AreWeeks, AreYears, IsLeafOf, IsMonthCount, ReachesMonth, IsStretch}

pub some : {T : Type 0} (o : Option T) (P : T → Type 0) → IsSomeAnd o P → IsSome o
some (Some x) P h = refl
some None P h = absurd h

pub weaker : {T : Type 0} (o : Option T) (P Q : T → Type 0) → ((x : T) → P x → Q x) → IsSomeAnd o P → IsSomeAnd o Q
weaker (Some x) P Q f h = f x h
weaker None P Q f h = h

same : {T : Type 0} (o : Option T) (x y : T) → o ≡ Some x → o ≡ Some y → x ≡ y
same o x y e f = let g = sym e ∙ f in cc

none : {T : Type 0} (o : Option T) (x : T) → o ≡ Some x → o ≡ None → ⊥
none o x e f = let g = sym e ∙ f in absurd cc

pub by_year : (p : StartParts) (d : DurationParts) (year : ℕ) (o : Option Selector) → p.year ≡ Some year
    → ((last : ℕ) → IsYears year last 1 → year + d.years ≡ last + 1 → IsSomeAnd o (AreYears year last 1))
    → (x : Selector) → IsLeafOf x p d → IsSome o
by_year p d year o is each (selector.Years x) h =
    let e = same p.year year x.first is h.0 in
    some o (AreYears year x.last 1) (each x.last
    (rw e (x.in_range.0, x.in_range.1, x.in_range.2, omega arith, omega arith)) (rw e h.1))
by_year p d year o is each (selector.Weeks x) h = absurd (none p.year year is h.0)
by_year p d year o is each (selector.Months x) h = absurd (none p.year year is h.0)
by_year p d year o is each (selector.Dates x) h = absurd (none p.year year is h.0)
by_year p d year o is each (selector.Dated x) h = absurd h
by_year p d year o is each (selector.Weekdays x) h = absurd (none p.year year is h.0.0)
by_year p d year o is each (selector.Nth x) h = absurd (none p.year year is h.0.0)
by_year p d year o is each (selector.NthBack x) h = absurd (none p.year year is h.0.0)
by_year p d year o is each (selector.Moved x) h = absurd h
by_year p d year o is each (selector.Moving x) h = absurd h
by_year p d year o is each (selector.Yearly x) h = absurd h

pub by_week : (p : StartParts) (d : DurationParts) (week : ℕ) (o : Option Selector) → p.year ≡ None → p.week ≡ Some week
    → ((last : ℕ) → IsWeeks week last 1 → week + d.weeks ≡ last + 1 → IsSomeAnd o (AreWeeks week last 1))
    → (x : Selector) → IsLeafOf x p d → IsSome o
by_week p d week o no_year is each (selector.Years x) h = absurd (none p.year x.first h.0 no_year)
by_week p d week o no_year is each (selector.Weeks x) h =
    let e = same p.week week x.first is h.1 in
    some o (AreWeeks week x.last 1) (each x.last
    (rw e (x.in_range.0, x.in_range.1, x.in_range.2, omega arith, omega arith)) (rw e h.2))
by_week p d week o no_year is each (selector.Months x) h = absurd (none p.week week is h.1)
by_week p d week o no_year is each (selector.Dates x) h = absurd (none p.week week is h.1)
by_week p d week o no_year is each (selector.Dated x) h = absurd h
by_week p d week o no_year is each (selector.Weekdays x) h = absurd (none p.week week is h.0.2)
by_week p d week o no_year is each (selector.Nth x) h = absurd (none p.week week is h.0.2)
by_week p d week o no_year is each (selector.NthBack x) h = absurd (none p.week week is h.0.2)
by_week p d week o no_year is each (selector.Moved x) h = absurd h
by_week p d week o no_year is each (selector.Moving x) h = absurd h
by_week p d week o no_year is each (selector.Yearly x) h = absurd h

pub by_month : (p : StartParts) (d : DurationParts) (month day : ℕ) (o : Option Selector) → p.year ≡ None → p.week ≡ None
    → p.month ≡ Some month → p.day ≡ Some day
    → ((last : ℕ) → IsMonth month → IsMonth last → day ≡ 1 → d.days ≡ 0 → IsMonthCount month last d.months → IsSome o)
    → ((first last : MonthDay) → month ≡ first.month → day ≡ first.day → d.months ≤ 12 → IsOneStretch first last
    → IsStretch first last d.months d.days → IsSome o)
    → (x : Selector) → IsLeafOf x p d → IsSome o
by_month p d month day o no_year no_week is on each dates (selector.Years x) h = absurd (none p.year x.first h.0 no_year)
by_month p d month day o no_year no_week is on each dates (selector.Weeks x) h = absurd (none p.week x.first h.1 no_week)
by_month p d month day o no_year no_week is on each dates (selector.Months x) h =
    let e = same p.month month x.first is h.2 in
    each x.last (rw e x.first_in) x.last_in (same p.day day 1 on h.3) h.4 (rw e h.5)
by_month p d month day o no_year no_week is on each dates (selector.Dates x) h =
    dates x.first x.last (same p.month month x.first.month is h.2) (same p.day day x.first.day on h.3) h.4 h.5 h.6
by_month p d month day o no_year no_week is on each dates (selector.Dated x) h = absurd h
by_month p d month day o no_year no_week is on each dates (selector.Weekdays x) h = absurd (none p.month month is h.0.1)
by_month p d month day o no_year no_week is on each dates (selector.Nth x) h = absurd (none p.month month is h.0.1)
by_month p d month day o no_year no_week is on each dates (selector.NthBack x) h = absurd (none p.month month is h.0.1)
by_month p d month day o no_year no_week is on each dates (selector.Moved x) h = absurd h
by_month p d month day o no_year no_week is on each dates (selector.Moving x) h = absurd h
by_month p d month day o no_year no_week is on each dates (selector.Yearly x) h = absurd h

pub by_weekday : (p : StartParts) (d : DurationParts) (o : Option Selector) → p.year ≡ None → p.week ≡ None → p.month ≡ None
    → ((x : WeekdayPlace) → p.nth ≡ Some (x.number, x.weekday) → IsSome o)
    → ((x : WeekdayPlace) → p.nth ≡ None → p.nth_back ≡ Some (x.number, x.weekday) → IsSome o)
    → (p.nth ≡ None → p.nth_back ≡ None → IsSome o)
    → (x : Selector) → IsLeafOf x p d → IsSome o
by_weekday p d o no_year no_week no_month nth back days (selector.Years x) h = absurd (none p.year x.first h.0 no_year)
by_weekday p d o no_year no_week no_month nth back days (selector.Weeks x) h = absurd (none p.week x.first h.1 no_week)
by_weekday p d o no_year no_week no_month nth back days (selector.Months x) h = absurd (none p.month x.first h.2 no_month)
by_weekday p d o no_year no_week no_month nth back days (selector.Dates x) h = absurd (none p.month x.first.month h.2 no_month)
by_weekday p d o no_year no_week no_month nth back days (selector.Dated x) h = absurd h
by_weekday p d o no_year no_week no_month nth back days (selector.Weekdays x) h = days h.1 h.2
by_weekday p d o no_year no_week no_month nth back days (selector.Nth x) h = nth x h.1
by_weekday p d o no_year no_week no_month nth back days (selector.NthBack x) h = back x h.1 h.2
by_weekday p d o no_year no_week no_month nth back days (selector.Moved x) h = absurd h
by_weekday p d o no_year no_week no_month nth back days (selector.Moving x) h = absurd h
by_weekday p d o no_year no_week no_month nth back days (selector.Yearly x) h = absurd h

-- ---- the days of a stretch

pub most-common : (m : ℕ) → common_length m ≤ 31
most-common m = grind arith

pub few-days : (first last : MonthDay) (months days : ℕ) → IsOneStretch first last → IsStretch first last months days
    → days ≤ 100
few-days first last months days one (inl same) = omega (arith, one.1, most-common last.month, same.1)
few-days first last months days one (inr next) =
    omega (arith, one.1, most-common last.month, most-common next.0, next.5)

-- the month that is reached: m is so many months later
reached : (first months m last : ℕ) → (1 ≤ m) × (m ≤ 12) → (1 ≤ last) × (last ≤ 12)
    → (m ≡ first + months) ⊎ (m + 12 ≡ first + months) → ReachesMonth first last months → m ≡ last
reached first months m last low high (inl a) (inl b) = omega (arith, low, high, a, b)
reached first months m last low high (inl a) (inr b) = omega (arith, low, high, a, b)
reached first months m last low high (inr a) (inl b) = omega (arith, low, high, a, b)
reached first months m last low high (inr a) (inr b) = omega (arith, low, high, a, b)

-- The date that is found before a day of the month that is reached is the last one of the stretch.
pub last-found : (first last : MonthDay) (months days m end month day : ℕ) → (1 ≤ m) × (m ≤ 12)
    → (m ≡ first.month + months) ⊎ (m + 12 ≡ first.month + months) → end ≡ first.day + days
    → (2 ≤ end → end ≤ common_length m + 1 → (month ≡ m) × (day + 1 ≡ end))
    → (common_length m + 1 < end → end ≤ common_length m + common_length (month_after m) + 1
    → (month ≡ month_after m) × (common_length m + day + 1 ≡ end))
    → IsOneStretch first last → IsStretch first last months days → (month ≡ last.month) × (day ≡ last.day)
last-found first last months days m end month day low later ends within next one (inl h) =
    let same = reached first.month months m last.month low last.in_range.0 later h.0 in
    let fits : last.day ≤ common_length m = rw same one.1 in
    let found = within (omega (arith, ends, h.1, last.in_range.1.0)) (omega (arith, ends, h.1, fits)) in
    (found.0 ∙ same, omega (arith, found.1, ends, h.1))
last-found first last months days m end month day low later ends within next one (inr h) =
    let same = reached first.month months m h.0 low (h.1, h.2) later h.4 in
    let after : month_after m ≡ last.month = rw same h.3 in
    let long : end ≡ common_length m + last.day + 1 = rw same (ends ∙ h.5) in
    let fits : last.day ≤ common_length (month_after m) = rw after one.1 in
    let found = next (omega (arith, long, last.in_range.1.0)) (omega (arith, long, fits)) in
    (found.0 ∙ after, omega (arith, found.1, long))
