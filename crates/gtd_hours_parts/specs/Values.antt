-- What the pieces of a text stand for.
use Rattle.std.specs.Prelude.{◌≡◌, ℕ, Option, Some, None}
use Rattle.gtd_hours.specs.declared.hours.MonthDay.{MonthDay}
use Rattle.gtd_hours.specs.declared.hours.YearDate.{YearDate}
use Rattle.gtd_hours.specs.declared.hours.WeekdayPlace.{WeekdayPlace}
use Rattle.gtd_hours.specs.declared.hours.Selector.{Selector}
use Rattle.gtd_hours.specs.declared.hours.Selector.TheVariants as selector
use Rattle.gtd_hours_parts.specs.declared.digits.Digits.{Digits}
use Rattle.gtd_hours_parts.specs.Numbers.{last_of, step_of}
use Rattle.gtd_hours_parts.specs.Dates.{last_year}
use Rattle.gtd_hours_parts.specs.Times.{minute_of}
use Rattle.gtd_hours_parts.specs.declared.days.Days.{Days}
use Rattle.gtd_hours_parts.specs.declared.piece.LastDate.{LastDate}
use Rattle.gtd_hours_parts.specs.declared.piece.LastDate.TheVariants as last_date
use Rattle.gtd_hours_parts.specs.declared.piece.Offset.{Offset}
use Rattle.gtd_hours_parts.specs.declared.piece.WrittenDate.{WrittenDate}
use Rattle.gtd_hours_parts.specs.declared.piece.Piece.{Piece}
use Rattle.gtd_hours_parts.specs.declared.piece.Piece.TheVariants as piece
use Rattle.gtd_hours_parts.specs.declared.part.Part.{Part}
use Rattle.gtd_hours_parts.specs.declared.part.Part.TheVariants as part

-- a range ends where it begins if no end is written
abbrev pub last_number : Digits → Option Digits → ℕ
last_number first None = first.value
last_number first (Some last) = last.value

abbrev pub IsMonthDay : MonthDay → ℕ → ℕ → Type 0
IsMonthDay x month day = (x.month ≡ month) × (x.day ≡ day)

abbrev pub IsYearDate : YearDate → ℕ → ℕ → ℕ → Type 0
IsYearDate x year month day = (x.year ≡ year) × (x.month ≡ month) × (x.day ≡ day)

-- the month and the day that a range of dates ends with
abbrev pub last_month : WrittenDate → Option LastDate → ℕ
last_month first None = first.month
last_month first (Some (last_date.Day day)) = first.month
last_month first (Some (last_date.Date last)) = last.month

abbrev pub last_day : WrittenDate → Option LastDate → ℕ
last_day first None = first.day.value
last_day first (Some (last_date.Day day)) = day.value
last_day first (Some (last_date.Date last)) = last.day.value

-- and its year, where the first date has this one
abbrev pub year_or : ℕ → Option Digits → ℕ
year_or year None = year
year_or year (Some written) = written.value

abbrev pub end_year : ℕ → WrittenDate → Option LastDate → ℕ
end_year year first None = year
end_year year first (Some (last_date.Day day)) = last_year year first.month first.day.value first.month day.value
end_year year first (Some (last_date.Date last)) =
    year_or (last_year year first.month first.day.value last.month last.day.value) last.year

-- dates of each year, or dates of years
abbrev pub AreDates : Option Digits → WrittenDate → Option LastDate → Selector → Type 0
AreDates None first last (selector.Dates x) =
    IsMonthDay x.first first.month first.day.value × IsMonthDay x.last (last_month first last) (last_day first last)
AreDates (Some year) first last (selector.Dated x) =
    IsYearDate x.first year.value first.month first.day.value
    × IsYearDate x.last (end_year year.value first last) (last_month first last) (last_day first last)
AreDates year first last x = ⊥

-- the piece is this selector
abbrev pub IsSelector : Piece → Selector → Type 0
IsSelector (piece.Years first last step) (selector.Years x) =
    (x.first ≡ first.value) × (x.last ≡ last_number first last) × (x.step ≡ step_of step)
IsSelector (piece.Months first last) (selector.Months x) = (x.first ≡ first) × (x.last ≡ last_of first last)
IsSelector (piece.Dates first last) x = AreDates first.year first last x
IsSelector (piece.Weeks first last step) (selector.Weeks x) =
    (x.first ≡ first.value) × (x.last ≡ last_number first last) × (x.step ≡ step_of step)
IsSelector (piece.Weekdays first last) (selector.Weekdays x) = (x.first ≡ first) × (x.last ≡ last_of first last)
IsSelector (piece.PlaceBack weekday number) (selector.NthBack x) = (x.weekday ≡ weekday) × (x.number ≡ number.value)
IsSelector y x = ⊥

-- the weekday at a place
abbrev pub IsWeekdayAt : ℕ → ℕ → WeekdayPlace → Type 0
IsWeekdayAt weekday number x = (x.weekday ≡ weekday) × (x.number ≡ number)

-- the days of an offset, if there is one
abbrev pub AreDaysOf : Option Days → Option Offset → Type 0
AreDaysOf None None = Unit {0}
AreDaysOf (Some x) (Some o) = (x.is_before ≡ o.is_before) × (x.count ≡ o.days.value)
AreDaysOf x o = ⊥

-- the piece stands for this part
abbrev pub IsPartOf : Part → Piece → Type 0
IsPartOf (part.Rule l) (piece.Rule k) = l ≡ k
IsPartOf part.Kind piece.Kind = Unit {0}
IsPartOf (part.Selector x) y = IsSelector y x
IsPartOf (part.Places x z) (piece.Places weekday first last) =
    IsWeekdayAt weekday first.value x × IsWeekdayAt weekday (last_number first last) z
IsPartOf (part.PlacesEnd x) (piece.PlacesEnd o) = AreDaysOf x o
IsPartOf (part.Times x) (piece.Times begin last) = (x.begin ≡ minute_of begin) × (x.last ≡ minute_of last)
IsPartOf part.Closed piece.Closed = Unit {0}
IsPartOf x y = ⊥
