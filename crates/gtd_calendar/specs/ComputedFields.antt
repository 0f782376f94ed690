-- What the calendar says of a day, computed. A law of this crate says that these are the fields of the day, and that
-- there are no others.
use Rattle.std.specs.Prelude.{ℤ}
use Rattle.gtd_calendar.specs.declared.day.DayFields.{DayFields}
use Rattle.gtd_calendar.specs.Calendar.{month_length, weekday_of}
use Rattle.gtd_calendar.specs.ComputedDates.{year_of, month_of, day_of_month, week_of}
use Rattle.gtd_calendar.specs.Calendar.{place_from_front, place_from_back}
use Rattle.gtd_calendar.specs.ComputedDates.{week_year_of}

abbrev pub day_fields : ℤ → DayFields
day_fields n = record {
  year = year_of n;
  month = month_of n;
  day = day_of_month n;
  weekday = weekday_of n;
  week = week_of n;
  week_year = week_year_of n;
  nth = place_from_front (day_of_month n);
  nth_back = place_from_back (month_length (year_of n) (month_of n)) (day_of_month n);
}
