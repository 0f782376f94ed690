-- What a part is among the selectors of plain hours.
use Rattle.std.specs.Prelude.{◌⊎◌, ◌↔◌, List, Option, Some, None, ℤ}
use Rattle.gtd_calendar.specs.Calendar.{AreFieldsOf}
use Rattle.gtd_calendar.specs.declared.day.DayFields.{DayFields}
use Rattle.gtd_hours.specs.Opening.{HoldsOn as PlainHoldsOn}
use Rattle.gtd_hours2.specs.Opening.{Clocks, HoldsOn}
use Rattle.gtd_hours2.specs.declared.values.RulePart.{RulePart}
use Rattle.gtd_hours_days.specs.Listed.{IsListed}
use Rattle.gtd_hours_days.specs.declared.listed.Listed.{Listed}
use Rattle.gtd_hours_holidays.specs.declared.known_years.KnownYears.{KnownYears}
use Rattle.gtd_hours_holidays.specs.declared.row.HolidayRow.{HolidayRow}
use Rattle.gtd_hours_days2.specs.Known.{given_days, rows_of}
use Rattle.gtd_hours_days2.specs.declared.known.Known.{Known}
use Rattle.gtd_hours_days2.specs.declared.lowered.Lowered.{Lowered}
use Rattle.gtd_hours_days2.specs.declared.lowered.Lowered.TheVariants as low

-- day n is one of days that are known in these years; where no years are known it is none
abbrev pub IsListedIn : List HolidayRow → Option KnownYears → Listed → ℤ → Type 0
IsListedIn rows None x n = ⊥
IsListedIn rows (Some years) x n = IsListed rows years x n

abbrev pub LoweredHolds : Known → Lowered → ℤ → DayFields → Type 0
LoweredHolds known low.Nothing n f = ⊥
LoweredHolds known (low.One x) n f = PlainHoldsOn x n f
LoweredHolds known (low.Two x y) n f = PlainHoldsOn x n f ⊎ PlainHoldsOn y n f
LoweredHolds known (low.Listed x) n f = IsListedIn (rows_of known.holidays) known.years x n

-- it holds on the same days as the part, whatever the clock times are
abbrev pub IsLowered : Known → RulePart → Lowered → Type 0
IsLowered known part lowered = (clocks : Clocks) (n : ℤ) (f : DayFields) → AreFieldsOf n f
    → LoweredHolds known lowered n f ↔ HoldsOn (given_days known clocks) part n f

-- whatever is known
abbrev pub IsLoweredAlways : RulePart → Lowered → Type 0
IsLoweredAlways part lowered = (known : Known) → IsLowered known part lowered
