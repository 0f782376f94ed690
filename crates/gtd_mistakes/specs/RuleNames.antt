-- The names of the rules.
use Rattle.std.specs.Prelude.{ℕ, List, codes}
use Rattle.gtd_mistakes.specs.declared.rule.Rule.{Rule}
use Rattle.gtd_mistakes.specs.declared.rule.Rule.TheVariants as rule

abbrev pub name_of : Rule → List ℕ
name_of rule.FirstOfMonth = codes "first-of-month"
name_of rule.EachDayOfMonth = codes "each-day-of-month"
name_of rule.EachDayOfYear = codes "each-day-of-year"
name_of rule.EachHour = codes "each-hour"
name_of rule.SundayToThursday = codes "sunday-to-thursday"
name_of rule.MondayAndFriday = codes "monday-and-friday"
name_of rule.SundayAndMonday = codes "sunday-and-monday"
name_of rule.Minutes = codes "minutes"
name_of rule.EndAsDuration = codes "end-as-duration"
name_of rule.EndPastMidnight = codes "end-past-midnight"
name_of rule.DaysCutNights = codes "days-cut-nights"
name_of rule.SeasonCutsNights = codes "season-cuts-nights"
name_of rule.WeekdayOnDate = codes "weekday-on-date"
name_of rule.ProductFirst = codes "product-first"
name_of rule.DaysOfYear = codes "days-of-year"
name_of rule.ThirtyFirst = codes "thirty-first"
name_of rule.NoSuchDay = codes "no-such-day"
name_of rule.NeverHolds = codes "never-holds"
name_of rule.AlwaysHolds = codes "always-holds"
name_of rule.Past = codes "past"
name_of rule.EndsSoon = codes "ends-soon"
name_of rule.LoneCode = codes "lone-code"
