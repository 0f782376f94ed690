-- The days of a range of dates, of runs of days, and of groups of days that come each year.
use Rattle.std.proofs.Common.{◌≡◌, refl, sym, subst, inl, inr, ◌↔◌, ℕ, List, [], ◌∷◌, ◌++◌, ℤ, pos, ◌+ℤ◌, ◌≤ℤ◌, ◌<ℤ◌}
use Rattle.gtd_calendar.specs.declared.day.DayFields.{DayFields}
use Rattle.gtd_hours.specs.Opening.{HoldsOn, SomeHolds}
use Rattle.gtd_hours.specs.declared.hours.Dated.{Dated as DatedRange}
use Rattle.gtd_hours.specs.declared.hours.Selector.{Selector}
use Rattle.gtd_hours.specs.declared.hours.Selector.TheVariants as selector
use Rattle.gtd_hours.specs.Yearly.{IsOfDays}
use Rattle.gtd_hours.specs.declared.hours.YearlyDays.{YearlyDays}
use Rattle.gtd_hours_holidays.specs.KnownYears.{IsOfYears}
use Rattle.gtd_hours_holidays.specs.declared.known_years.KnownYears.{KnownYears}
use Rattle.gtd_hours_holidays.specs.declared.run.Run.{Run}
use Rattle.gtd_hours_days.specs.Groups.{IsOfGroup}
use Rattle.gtd_hours_days.specs.Parts.{IsOfRun, IsWritten, SomeRun}
use Rattle.gtd_hours_days.specs.declared.group.Group.{Group}
use Rattle.gtd_hours_known.specs.HolidayDays.{AreRangesOf, AreWritten, AreYearlyOf, IsRange, IsYearlyOf, date_day}

pub dated_range : (a b first last : ℤ) → a ≡ first → b ≡ last → first ≤ℤ last → last <ℤ (first +ℤ pos 36600)
    → (a ≤ℤ b) × (b <ℤ (a +ℤ pos 36600))
dated_range a b first last e f order short = rw (e, f) (order, short)

-- ---- ranges of dates

-- a range of dates is one
pub range_of : (x : Selector) (first last : ℤ) → IsRange first last x
    → (dates : DatedRange) × (x ≡ selector.Dated dates) × (date_day dates.first ≡ first) × (date_day dates.last ≡ last)
range_of (selector.Dated dates) first last is = (dates, refl, is.0, is.1)
range_of (selector.Years x) first last is = absurd is
range_of (selector.Months x) first last is = absurd is
range_of (selector.Dates x) first last is = absurd is
range_of (selector.Weeks x) first last is = absurd is
range_of (selector.Weekdays x) first last is = absurd is
range_of (selector.Nth x) first last is = absurd is
range_of (selector.NthBack x) first last is = absurd is
range_of (selector.Moved x) first last is = absurd is
range_of (selector.Moving x) first last is = absurd is
range_of (selector.Yearly x) first last is = absurd is

range_holds : (x : Selector) (run : Run) (n : ℤ) (f : DayFields) → IsRange run.first run.last x
    → HoldsOn x n f ↔ IsOfRun run n
range_holds x run n f is =
    let r = range_of x run.first run.last is in
    let first = r.2 in
    let last = r.3 in (
      (λ h.
          let both : HoldsOn (selector.Dated r.0) n f = subst (λ (y : Selector). HoldsOn y n f) r.1 h in
          (subst (λ (d : ℤ). d ≤ℤ n) first both.0, subst (λ (d : ℤ). n ≤ℤ d) last both.1)),
      (λ h. subst (λ (y : Selector). HoldsOn y n f) (sym r.1)
          (subst (λ (d : ℤ). d ≤ℤ n) (sym first) h.0, subst (λ (d : ℤ). n ≤ℤ d) (sym last) h.1)),
    )

-- one selector more
pub ranges_more : (runs : List Run) (run : Run) (days : List Selector) (x : Selector) → AreRangesOf runs days
    → IsRange run.first run.last x → AreRangesOf (runs ++ run ∷ []) (days ++ x ∷ [])
ranges_more [] run [] x are is = (is, tt)
ranges_more [] run (y ∷ days) x are is = absurd are
ranges_more (r ∷ runs) run [] x are is = absurd are
ranges_more (r ∷ runs) run (y ∷ days) x are is = (are.0, ranges_more runs run days x are.1 is)

-- they have the days of the runs
pub some_ranges : (runs : List Run) (days : List Selector) (n : ℤ) (f : DayFields) → AreRangesOf runs days
    → SomeHolds days n f ↔ SomeRun runs n
some_ranges [] [] n f are = ((λ h. h), (λ h. h))
some_ranges [] (x ∷ days) n f are = absurd are
some_ranges (run ∷ runs) [] n f are = absurd are
some_ranges (run ∷ runs) (x ∷ days) n f are =
    let here = range_holds x run n f are.0 in
    let more = some_ranges runs days n f are.1 in (
      (λ h. elim h [ inl a ↦ inl (here.0 a) | inr a ↦ inr (more.0 a) ]),
      (λ h. elim h [ inl a ↦ inl (here.1 a) | inr a ↦ inr (more.1 a) ]),
    )

-- ---- days that come each year

-- a selector with the days of a group has these days
pub yearly_of : (years : KnownYears) (group : Group) (x : Selector) → IsYearlyOf years group x
    → (days : YearlyDays) × (x ≡ selector.Yearly days) × IsYearlyOf years group (selector.Yearly days)
yearly_of years group (selector.Yearly days) is = (days, refl, is)
yearly_of years group (selector.Years x) is = absurd is
yearly_of years group (selector.Months x) is = absurd is
yearly_of years group (selector.Dates x) is = absurd is
yearly_of years group (selector.Dated x) is = absurd is
yearly_of years group (selector.Weeks x) is = absurd is
yearly_of years group (selector.Weekdays x) is = absurd is
yearly_of years group (selector.Nth x) is = absurd is
yearly_of years group (selector.NthBack x) is = absurd is
yearly_of years group (selector.Moved x) is = absurd is
yearly_of years group (selector.Moving x) is = absurd is

-- the days of a group in some years, by their numbers
abbrev IsInGroup : ℕ → ℕ → ℕ → ℕ → ℕ → ℤ → Type 0
IsInGroup first last month day days n = IsOfYears first last n × IsOfDays month day days n

yearly_holds : (years : KnownYears) (group : Group) (x : Selector) (n : ℤ) (f : DayFields) → IsYearlyOf years group x
    → HoldsOn x n f ↔ (IsOfYears years.first years.last n × IsOfGroup group n)
yearly_holds years group x n f is =
    let y = yearly_of years group x is in
    let same : IsInGroup y.0.first y.0.last y.0.month y.0.day y.0.days n
    ≡ IsInGroup years.first years.last group.month group.day group.days n =
    λ i. IsInGroup (y.2.0 i) (y.2.1 i) (y.2.2 i) (y.2.3 i) (y.2.4 i) n in (
      (λ h.
          let own : HoldsOn (selector.Yearly y.0) n f = subst (λ (z : Selector). HoldsOn z n f) y.1 h in
          let both : IsInGroup y.0.first y.0.last y.0.month y.0.day y.0.days n = ((own.0, own.1), own.2) in
          subst (λ (T : Type 0). T) same both),
      (λ h.
          let both : IsInGroup y.0.first y.0.last y.0.month y.0.day y.0.days n = subst (λ (T : Type 0). T) (sym same) h in
          subst (λ (z : Selector). HoldsOn z n f) (sym y.1) (both.0.0, both.0.1, both.1)),
    )

-- one selector more
pub groups_more : (years : KnownYears) (groups : List Group) (group : Group) (days : List Selector) (x : Selector)
    → AreYearlyOf years groups days → IsYearlyOf years group x → AreYearlyOf years (groups ++ group ∷ []) (days ++ x ∷ [])
groups_more years [] group [] x are is = (is, tt)
groups_more years [] group (y ∷ days) x are is = absurd are
groups_more years (g ∷ groups) group [] x are is = absurd are
groups_more years (g ∷ groups) group (y ∷ days) x are is = (are.0, groups_more years groups group days x are.1 is)

-- groups, and then runs
pub both_written : (years : KnownYears) (groups : List Group) (runs : List Run) (days others : List Selector)
    → AreYearlyOf years groups days → AreRangesOf runs others → AreWritten years groups runs (days ++ others)
both_written years [] runs [] others are ranges = ranges
both_written years [] runs (x ∷ days) others are ranges = absurd are
both_written years (g ∷ groups) runs [] others are ranges = absurd are
both_written years (g ∷ groups) runs (x ∷ days) others are ranges =
    (are.0, both_written years groups runs days others are.1 ranges)

-- they have the days of the groups in the years, and of the runs
pub some_written : (years : KnownYears) (groups : List Group) (runs : List Run) (days : List Selector) (n : ℤ) (f : DayFields)
    → AreWritten years groups runs days → SomeHolds days n f ↔ IsWritten years groups runs n
some_written years [] runs days n f are =
    let ranges = some_ranges runs days n f are in (
      (λ h. inr (ranges.0 h)),
      (λ h. elim h [ inl x ↦ absurd x.1 | inr r ↦ ranges.1 r ]),
    )
some_written years (g ∷ groups) runs [] n f are = absurd are
some_written years (g ∷ groups) runs (x ∷ days) n f are =
    let here = yearly_holds years g x n f are.0 in
    let more = some_written years groups runs days n f are.1 in (
      (λ h. elim h [
        | inl a ↦ (let both = here.0 a in inl (both.0, inl both.1))
        | inr a ↦ elim (more.0 a) [ inl b ↦ inl (b.0, inr b.1) | inr b ↦ inr b ]
      ]),
      (λ h. elim h [
        | inl a ↦ elim (a.1) [ inl b ↦ inl (here.1 (a.0, b)) | inr b ↦ inr (more.1 (inl (a.0, b))) ]
        | inr b ↦ inr (more.1 (inr b))
      ]),
    )
