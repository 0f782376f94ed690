-- What a table of holidays and years give to rules.
use Rattle.std.specs.Prelude.{ℕ, Bool, true, if◌then◌else◌, ◌&&◌, ◌||◌, is_some, List, [], Option, Some, None}
use Rattle.gtd_hours2.specs.Opening.{Clocks, Given, are_many}
use Rattle.gtd_hours2.specs.Days.{is_easter}
use Rattle.gtd_hours2.specs.declared.values.HolidayKind.{HolidayKind}
use Rattle.gtd_hours2.specs.declared.values.HolidayKind.TheVariants as which
use Rattle.gtd_hours2.specs.declared.values.RulePart.{RulePart}
use Rattle.gtd_hours2.specs.declared.values.RulePart.TheVariants as part
use Rattle.gtd_hours_holidays.specs.Table.{IsHoliday}
use Rattle.gtd_hours_holidays.specs.declared.holidays.Holidays.{Holidays}
use Rattle.gtd_hours_holidays.specs.declared.known_years.KnownYears.{KnownYears}
use Rattle.gtd_hours_holidays.specs.declared.row.HolidayKind.{HolidayKind as TableKind}
use Rattle.gtd_hours_holidays.specs.declared.row.HolidayKind.TheVariants as table
use Rattle.gtd_hours_holidays.specs.declared.row.HolidayRow.{HolidayRow}
use Rattle.gtd_hours_days2.specs.declared.known.Known.{Known}

-- the kind of holidays, as tables have it
abbrev pub table_kind : HolidayKind → TableKind
table_kind which.Public = table.Public
table_kind which.School = table.School

-- without a table there are no rows
abbrev pub rows_of : Option Holidays → List HolidayRow
rows_of None = []
rows_of (Some table) = table.rows.items

abbrev pub years_of : Option KnownYears → Option (ℕ × ℕ)
years_of None = None
years_of (Some years) = Some (years.first, years.last)

-- What is given: a day is a holiday if a row of the table says so.
abbrev pub given_days : Known → Clocks → Given
given_days known clocks = record {
  holiday = λ kind n. IsHoliday (rows_of known.holidays) (table_kind kind) n;
  years = years_of known.years;
  clocks = clocks;
}

-- what a part needs is known: years for many years without a last one and for Easter, and these and a table for holidays
abbrev pub is_given : Known → RulePart → Bool
is_given known (part.Years first None step) = if are_many first step then is_some known.years else true
is_given known (part.Days first last) = if is_easter first || is_easter last then is_some known.years else true
is_given known (part.Holidays kind offset) = is_some known.holidays && is_some known.years
is_given known x = true
