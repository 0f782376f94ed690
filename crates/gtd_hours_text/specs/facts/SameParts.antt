-- Parts of hours with the same numbers are the same: that they are in range is no further part of them.
use mathlib.Core.HLevel.{is_prop→PathP}
use Rattle.std.proofs.Common.{◌≡◌}
use Rattle.std.proofs.Props.{props}
use Rattle.gtd_hours.specs.Ranges.{IsDatedRange, IsMonth, IsMovable, IsTimeRange, IsWeekday, IsWeekdayPlace, IsWeeks, IsYears}
use Rattle.gtd_hours.specs.Ranges as ranges
use Rattle.gtd_hours.specs.declared.hours.Dated.{Dated}
use Rattle.gtd_hours.specs.declared.hours.Dates.{Dates}
use Rattle.gtd_hours.specs.declared.hours.MonthDay.{MonthDay}
use Rattle.gtd_hours.specs.declared.hours.Months.{Months}
use Rattle.gtd_hours.specs.declared.hours.WeekdayPlace.{WeekdayPlace}
use Rattle.gtd_hours.specs.declared.hours.TimeRange.{TimeRange}
use Rattle.gtd_hours.specs.declared.hours.Weekdays.{Weekdays}
use Rattle.gtd_hours.specs.declared.hours.Weeks.{Weeks}
use Rattle.gtd_hours.specs.declared.hours.YearDate.{YearDate}
use Rattle.gtd_hours.specs.declared.places.MovedPlace.{MovedPlace}
use Rattle.gtd_hours.specs.declared.hours.Years.{Years}

pub same_years : (x y : Years) → x.first ≡ y.first → x.last ≡ y.last → x.step ≡ y.step → x ≡ y
same_years x y first last step = λ i. record {
  first = first i;
  last = last i;
  step = step i;
  in_range = is_prop→PathP (λ j. IsYears (first j) (last j) (step j)) (λ j. hlevel props) x.in_range y.in_range i;
}

pub same_months : (x y : Months) → x.first ≡ y.first → x.last ≡ y.last → x ≡ y
same_months x y first last = λ i. record {
  first = first i;
  last = last i;
  first_in = is_prop→PathP (λ j. IsMonth (first j)) (λ j. hlevel props) x.first_in y.first_in i;
  last_in = is_prop→PathP (λ j. IsMonth (last j)) (λ j. hlevel props) x.last_in y.last_in i;
}

pub same_month_day : (x y : MonthDay) → x.month ≡ y.month → x.day ≡ y.day → x ≡ y
same_month_day x y month day = λ i. record {
  month = month i;
  day = day i;
  in_range = is_prop→PathP (λ j. ranges.IsMonthDay (month j) (day j)) (λ j. hlevel props) x.in_range y.in_range i;
}

pub same_dates : (x y : Dates) → x.first ≡ y.first → x.last ≡ y.last → x ≡ y
same_dates x y first last = λ i. record { first = first i; last = last i }

pub same_year_date : (x y : YearDate) → x.year ≡ y.year → x.month ≡ y.month → x.day ≡ y.day → x ≡ y
same_year_date x y year month day = λ i. record {
  year = year i;
  month = month i;
  day = day i;
  is_date = is_prop→PathP (λ j. ranges.IsYearDate (year j) (month j) (day j)) (λ j. hlevel props) x.is_date y.is_date i;
}

abbrev InRange : YearDate → YearDate → Type 0
InRange first last = IsDatedRange first.year first.month first.day last.year last.month last.day

pub same_dated : (x y : Dated) → x.first ≡ y.first → x.last ≡ y.last → x ≡ y
same_dated x y first last = λ i. record {
  first = first i;
  last = last i;
  in_range = is_prop→PathP (λ j. InRange (first j) (last j)) (λ j. hlevel props) x.in_range y.in_range i;
}

pub same_weeks : (x y : Weeks) → x.first ≡ y.first → x.last ≡ y.last → x.step ≡ y.step → x ≡ y
same_weeks x y first last step = λ i. record {
  first = first i;
  last = last i;
  step = step i;
  in_range = is_prop→PathP (λ j. IsWeeks (first j) (last j) (step j)) (λ j. hlevel props) x.in_range y.in_range i;
}

pub same_weekdays : (x y : Weekdays) → x.first ≡ y.first → x.last ≡ y.last → x ≡ y
same_weekdays x y first last = λ i. record {
  first = first i;
  last = last i;
  first_in = is_prop→PathP (λ j. IsWeekday (first j)) (λ j. hlevel props) x.first_in y.first_in i;
  last_in = is_prop→PathP (λ j. IsWeekday (last j)) (λ j. hlevel props) x.last_in y.last_in i;
}

pub same_place : (x y : WeekdayPlace) → x.weekday ≡ y.weekday → x.number ≡ y.number → x ≡ y
same_place x y weekday number = λ i. record {
  weekday = weekday i;
  number = number i;
  in_range = is_prop→PathP (λ j. IsWeekdayPlace (weekday j) (number j)) (λ j. hlevel props) x.in_range y.in_range i;
}

pub same_times : (x y : TimeRange) → x.begin ≡ y.begin → x.last ≡ y.last → x ≡ y
same_times x y begin last = λ i. record {
  begin = begin i;
  last = last i;
  in_range = is_prop→PathP (λ j. IsTimeRange (begin j) (last j)) (λ j. hlevel props) x.in_range y.in_range i;
}

pub same_moved : (x y : MovedPlace) → x.place ≡ y.place → x.is_back ≡ y.is_back → x.days ≡ y.days → x.is_before ≡ y.is_before
    → x ≡ y
same_moved x y place back days before = λ i. record {
  place = place i;
  is_back = back i;
  days = days i;
  is_before = before i;
  in_range = is_prop→PathP (λ j. IsMovable (place j).number (back j) (days j) (before j)) (λ j. hlevel props) x.in_range
      y.in_range i;
}
