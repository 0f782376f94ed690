-- The hours of a rule's own text with the month days that are not in it: ranges that move, and days of Easter, which are known in
-- some years alone; and with years that end with these.
use Rattle.std.specs.Prelude.{◌≡◌, List, [], ◌∷◌, Option, Some, None}
use Rattle.gtd_hours.specs.declared.hours.Hours.{Hours}
use Rattle.gtd_hours.specs.declared.hours.Selector.{Selector}
use Rattle.gtd_hours_dated.specs.Dated.{IsDatedHours, More}
use Rattle.gtd_hours_dated.specs.declared.more.MonthItem.{MonthItem}
use Rattle.gtd_hours_days.specs.declared.listed.EasterDays.{EasterDays}
use Rattle.gtd_hours_days.specs.declared.listed.Listed.{Listed}
use Rattle.gtd_hours_days.specs.declared.listed.Listed.TheVariants.{Easter}
use Rattle.gtd_hours_holidays.specs.declared.known_years.KnownYears.{KnownYears}
use Rattle.gtd_hours_holiday_rules.specs.declared.rules.HolidayRule.{HolidayRule}
use Rattle.gtd_hours_known.specs.HolidayDays.{AreDaysIn}
use Rattle.gtd_hours_known.specs.Until.{AreHoursUntil}
use Rattle.gtd_hours_known.specs.declared.known.Known.{Known}

-- days of Easter as selectors that are listed
abbrev pub listed_of : List EasterDays → List Listed
listed_of [] = []
listed_of (x ∷ easter) = Easter x ∷ listed_of easter

-- The days of Easter in the years, of which a table says nothing. Where there is none of them, no years need be given.
abbrev pub AreEasterDays : Known → List EasterDays → List Selector → Type 0
AreEasterDays known [] days = days ≡ []
AreEasterDays known (x ∷ easter) days =
    (years : KnownYears) × (known.years ≡ Some years) × AreDaysIn [] years (listed_of (x ∷ easter)) days

-- ranges that move, and the days of Easter, if there is one of either, and what stands in the list of month days
abbrev pub more_days : List MonthItem → List Selector → List EasterDays → List Selector → Option More
more_days order [] [] days = None
more_days order [] (h ∷ easter) days = Some (record { order = order; dates = []; easter = days })
more_days order (x ∷ dates) easter days = Some (record { order = order; dates = x ∷ dates; easter = days })

-- the month days of a rule that are not in its own text, with these days of Easter
abbrev pub month_days : HolidayRule → List Selector → Option More
month_days from days = more_days from.month_items.items from.dates.items from.easter.items days

-- The own text of a rule, with its other month days, stands for these hours, where years without a last one end with the known
-- years.
pub record IsOwnHours (known : Known) (from : HolidayRule) (hours : Hours) : Type 0 where
  pub easter : List Selector
  pub are : AreEasterDays known from.easter.items easter
  pub dated : Hours
  pub stands : IsDatedHours from.text.items (month_days from easter) dated
  pub until : AreHoursUntil known.years from.every_place from.every.items dated hours
