-- Days are written in one way. So there is one list of selectors for holidays and Easter.
use mathlib.Core.HLevel.{is_prop→PathP}
use Rattle.std.proofs.Common.{◌≡◌, ◌∙◌, ap, refl, sym, subst, List, [], ◌∷◌, ℤ}
use Rattle.std.proofs.Props.{props}
use Rattle.std.specs.Prelude.{Some}
use Rattle.gtd_hours.specs.Ranges.{IsYearlyDays}
use Rattle.gtd_hours.specs.declared.hours.Hours.{Hours}
use Rattle.gtd_hours.specs.declared.hours.Selector.{Selector}
use Rattle.gtd_hours.specs.declared.hours.Selector.TheVariants as selector
use Rattle.gtd_hours.specs.declared.hours.YearlyDays.{YearlyDays}
use Rattle.gtd_hours_dated.specs.Dated.{IsDatedHours}
use Rattle.gtd_hours_dated.specs.facts.SameDated.{dated_rules}
use Rattle.gtd_hours_text.specs.facts.SameRules.{SameRules}
use Rattle.gtd_hours_days.specs.Listed.{SomeListed}
use Rattle.gtd_hours_days.specs.declared.group.Group.{Group}
use Rattle.gtd_hours_days.specs.declared.listed.EasterDays.{EasterDays}
use Rattle.gtd_hours_days.specs.declared.listed.Listed.{Listed}
use Rattle.gtd_hours_days.proofs.OneGrouping.{one_way}
use Rattle.gtd_hours_holidays.specs.declared.holidays.Holidays.{Holidays}
use Rattle.gtd_hours_holidays.specs.declared.known_years.KnownYears.{KnownYears}
use Rattle.gtd_hours_holidays.specs.declared.row.HolidayRow.{HolidayRow}
use Rattle.gtd_hours_holidays.specs.declared.run.Run.{Run}
use Rattle.gtd_hours_holiday_rules.specs.declared.rules.HolidayRule.{HolidayRule}
use Rattle.gtd_hours_known.specs.Easter.{AreEasterDays, IsOwnHours, month_days, listed_of}
use Rattle.gtd_hours_known.specs.HolidayDays.{AreDaysIn, AreRangesOf, AreWritten, AreWrittenDays, IsRange, IsYearlyOf}
use Rattle.gtd_hours_known.specs.Rules.{AreGivenDays}
use Rattle.gtd_hours_known.specs.declared.known.Known.{Known}
use Rattle.gtd_hours_known.proofs.DayFacts.{range_of, yearly_of}
use Rattle.gtd_hours_known.proofs.UntilLemmas.{hours_until}
use Rattle.gtd_hours_ranges.specs.facts.SameDays.{same_range}

-- ---- one selector

same_yearly : (x y : YearlyDays) → x.first ≡ y.first → x.last ≡ y.last → x.month ≡ y.month → x.day ≡ y.day → x.days ≡ y.days
    → x ≡ y
same_yearly x y first last month day days = λ i. record {
  first = first i;
  last = last i;
  month = month i;
  day = day i;
  days = days i;
  in_range = is_prop→PathP (λ j. IsYearlyDays (first j) (last j) (month j) (day j) (days j)) (λ j. hlevel props)
      x.in_range y.in_range i;
}

one_range : (run : Run) (x y : Selector) → IsRange run.first run.last x → IsRange run.first run.last y → x ≡ y
one_range run x y p q =
    let a = range_of x run.first run.last p in
    let b = range_of y run.first run.last q in
    a.1 ∙ ap selector.Dated (same_range a.0 b.0 (a.2 ∙ sym b.2) (a.3 ∙ sym b.3)) ∙ sym b.1

one_yearly : (years : KnownYears) (group : Group) (x y : Selector) → IsYearlyOf years group x → IsYearlyOf years group y → x ≡ y
one_yearly years group x y p q =
    let a = yearly_of years group x p in
    let b = yearly_of years group y q in
    a.1
    ∙ ap selector.Yearly (same_yearly a.0 b.0 (a.2.0 ∙ sym b.2.0) (a.2.1 ∙ sym b.2.1) (a.2.2 ∙ sym b.2.2) (a.2.3 ∙ sym b.2.3)
    (a.2.4 ∙ sym b.2.4))
    ∙ sym b.1

-- ---- lists of them

both_more : (x y : Selector) (xs ys : List Selector) → x ≡ y → xs ≡ ys → x ∷ xs ≡ y ∷ ys
both_more x y xs ys e f = λ i. e i ∷ f i

one_ranges : (runs : List Run) (xs ys : List Selector) → AreRangesOf runs xs → AreRangesOf runs ys → xs ≡ ys
one_ranges [] [] [] p q = refl
one_ranges [] [] (y ∷ ys) p q = absurd q
one_ranges [] (x ∷ xs) ys p q = absurd p
one_ranges (run ∷ runs) [] ys p q = absurd p
one_ranges (run ∷ runs) (x ∷ xs) [] p q = absurd q
one_ranges (run ∷ runs) (x ∷ xs) (y ∷ ys) p q =
    both_more x y xs ys (one_range run x y p.0 q.0) (one_ranges runs xs ys p.1 q.1)

one_written : (years : KnownYears) (groups : List Group) (runs : List Run) (xs ys : List Selector)
    → AreWritten years groups runs xs → AreWritten years groups runs ys → xs ≡ ys
one_written years [] runs xs ys p q = one_ranges runs xs ys p q
one_written years (g ∷ groups) runs [] ys p q = absurd p
one_written years (g ∷ groups) runs (x ∷ xs) [] p q = absurd q
one_written years (g ∷ groups) runs (x ∷ xs) (y ∷ ys) p q =
    both_more x y xs ys (one_yearly years g x y p.0 q.0) (one_written years groups runs xs ys p.1 q.1)

-- Some days are written in one way.
one_days : (some : ℤ → Type 0) (years : KnownYears) (xs ys : List Selector) → AreWrittenDays some years xs
    → AreWrittenDays some years ys → xs ≡ ys
one_days some years xs ys p q =
    let a = p.2 in
    let b = q.2 in
    let same = one_way a.0 b.0 years p.0 q.0 p.1 q.1
    (λ n. ((λ h. (b.1 n).1 ((a.1 n).0 h)), (λ h. (a.1 n).1 ((b.1 n).0 h)))) a.2 b.2 in
    one_written years q.0 q.1 xs ys
    (subst (λ (r : List Run). AreWritten years q.0 r xs) same.1
    (subst (λ (g : List Group). AreWritten years g p.1 xs) same.0 p.3)) q.3

-- ---- holidays

same_some : {A : Type 0} (a b : A) → Some a ≡ Some b → a ≡ b
same_some a b e = cc

-- Rows have one list of days.
one_in : (rows : List HolidayRow) (years : KnownYears) (listed : List Listed) (days others : List Selector)
    → AreDaysIn rows years listed days → AreDaysIn rows years listed others → days ≡ others
one_in rows years listed days others p q = one_days (SomeListed rows years listed) years days others p.2 q.2

-- So has what is given of holidays, and of Easter.
pub one_list : (known : Known) (holidays : List Listed) (days others : List Selector) → AreGivenDays known holidays days
    → AreGivenDays known holidays others → days ≡ others
one_list known [] days others p q = p ∙ sym q
one_list known (h ∷ holidays) days others p q =
    let same_table = same_some q.0 p.0 (sym q.2.has_table ∙ p.2.has_table) in
    let same_years = same_some q.1 p.1 (sym q.2.has_years ∙ p.2.has_years) in
    one_in p.0.rows.items p.1 (h ∷ holidays) days others p.3
    (subst (λ (y : KnownYears). AreDaysIn p.0.rows.items y (h ∷ holidays) others) same_years
    (subst (λ (t : Holidays). AreDaysIn t.rows.items q.1 (h ∷ holidays) others) same_table q.3))

pub one_easter : (known : Known) (easter : List EasterDays) (days others : List Selector) → AreEasterDays known easter days
    → AreEasterDays known easter others → days ≡ others
one_easter known [] days others p q = p ∙ sym q
one_easter known (h ∷ easter) days others p q =
    one_in [] p.0 (listed_of (h ∷ easter)) days others p.2
    (subst (λ (y : KnownYears). AreDaysIn [] y (listed_of (h ∷ easter)) others) (same_some q.0 p.0 (sym q.1 ∙ p.1)) q.2)

-- The own text of a rule stands for the same rules of hours.
pub one_own : (known : Known) (from : HolidayRule) (one other : Hours) → IsOwnHours known from one
    → IsOwnHours known from other → SameRules one.rules.items other.rules.items
one_own known from one other p q =
    let same = one_easter known from.easter.items p.easter q.easter p.are q.are in
    let dated = dated_rules from.text.items (month_days from q.easter) p.dated q.dated
    (subst (λ (l : List Selector). IsDatedHours from.text.items (month_days from l) p.dated) same p.stands) q.stands in
    hours_until known.years from.every_place from.every.items p.dated q.dated one other dated p.until q.until
