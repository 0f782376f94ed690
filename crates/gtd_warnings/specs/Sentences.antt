-- What is said of a rule that holds of a row's domain.
use Rattle.std.specs.Prelude.{◌++◌, ◌+◌, ◌/◌, ◌%◌, ◌==◌, ℕ, List, [], codes, decimal, if◌then◌else◌}
use Rattle.gtd_mistakes.specs.RuleNames.{name_of}
use Rattle.gtd_mistakes.specs.declared.rule.Rule.{Rule}
use Rattle.gtd_mistakes.specs.declared.rule.Rule.TheVariants as rule
use Rattle.gtd_mistakes.specs.declared.told.Part.{Part}
use Rattle.gtd_mistakes.specs.declared.told.Told.{Told}
use Rattle.gtd_warnings.specs.declared.codes.LoneCode.{LoneCode}

-- two digits of a number below 100
abbrev pub two_digits : ℕ → List ℕ
two_digits n = decimal (n / 10) ++ decimal (n % 10)

abbrev pub seconds_text : ℕ → List ℕ
seconds_text second = if second % 60 == 0 then [] else codes ":" ++ two_digits (second % 60)

-- a time of the day, with its seconds if they are not 0
abbrev pub clock_text : ℕ → List ℕ
clock_text second = two_digits (second / 3600) ++ (codes ":" ++ (two_digits (second / 60 % 60) ++ seconds_text second))

-- the time of the day at which the stretches of a basic domain end, if all begin at one time of it
abbrev pub end_of : Part → ℕ
end_of part = (part.begin + part.clock) % 86_400

-- what the domain says
abbrev pub says : Rule → Part → List ℕ
says rule.FirstOfMonth part = codes "the first day of the month alone"
says rule.EachDayOfMonth part = codes "on each day of the month"
says rule.EachDayOfYear part = codes "on each day of the year"
says rule.EachHour part = codes "in each hour"
says rule.SundayToThursday part = codes "Sunday to Thursday; weekdays count from Sunday"
says rule.MondayAndFriday part = codes "on Monday and on Friday, and not between"
says rule.SundayAndMonday part = codes "Sunday and Monday; weekdays count from Sunday"
says rule.Minutes part = codes "minutes; m is the minute, and M the month"
says rule.EndAsDuration part = codes "until " ++ (clock_text (end_of part) ++ codes "; a duration is no end")
says rule.EndPastMidnight part = codes "until " ++ (clock_text (end_of part) ++ codes " the next day; a duration is no end")
says rule.DaysCutNights part = codes "the days cut the nights at midnight"
says rule.SeasonCutsNights part = codes "the season cuts the nights at midnight"
says rule.WeekdayOnDate part = codes "only where the weekday is this day of the month"
says rule.ProductFirst part = codes "* binds before +, and joins one of the times alone"
says rule.DaysOfYear part = codes "not as many days as the year has"
says rule.ThirtyFirst part = codes "the 31st, which only seven months have"
says rule.NoSuchDay part = codes "never; the month has no such day"
says rule.NeverHolds part = codes "at no second from 1901 on"
says rule.AlwaysHolds part = codes "at each second, as if no domain were given"
says rule.Past part = codes "over before the day that is asked about"
says rule.EndsSoon part = codes "over within 30 days of the day that is asked about"
says rule.LoneCode part = codes "a vehicle type that no other row names"

-- what may be meant; of an end, its time is said instead, and of whole rows nothing
abbrev pub meant : Rule → List ℕ
meant rule.FirstOfMonth = codes "the whole month: {M1}"
meant rule.EachDayOfMonth = codes "one day of it: give the day by d"
meant rule.EachDayOfYear = codes "one day of it: give the month by M and the day by d"
meant rule.EachHour = codes "once a day: give the hour by h"
meant rule.SundayToThursday = codes "Monday to Friday: (t2){d5}, or t2t3t4t5t6 with a time"
meant rule.MondayAndFriday = codes "Monday to Friday: (t2){d5}, or t2t3t4t5t6 with a time"
meant rule.SundayAndMonday = codes "Saturday and Sunday: (t7){d2}"
meant rule.Minutes = codes "months: M"
meant rule.EndAsDuration = []
meant rule.EndPastMidnight = []
meant rule.DaysCutNights = codes "the nights that begin on these days, as in (t6h22){h8}"
meant rule.SeasonCutsNights = codes "the nights that begin in it, as in (M7h23){h6}+(M8h23){h6}"
meant rule.WeekdayOnDate = codes "the first such weekday of the month, or the second: f"
meant rule.ProductFirst = codes "all the times: [..+..]*.."
meant rule.DaysOfYear = codes "the whole year: {y1}"
meant rule.ThirtyFirst = codes "the last day of each month"
meant rule.NoSuchDay = codes "the last day of the month"
meant rule.NeverHolds = []
meant rule.AlwaysHolds = []
meant rule.Past = []
meant rule.EndsSoon = []
meant rule.LoneCode = []

-- the line that says what may be meant
abbrev pub perhaps_line : Rule → Part → List ℕ
perhaps_line rule.EndAsDuration part = codes "    perhaps:  until " ++ (clock_text part.clock ++ codes "\n")
perhaps_line rule.EndPastMidnight part = codes "    perhaps:  until " ++ (clock_text part.clock ++ codes "\n")
perhaps_line rule.NeverHolds part = []
perhaps_line rule.AlwaysHolds part = []
perhaps_line rule.Past part = []
perhaps_line rule.EndsSoon part = []
perhaps_line rule.LoneCode part = []
perhaps_line rule part = codes "    perhaps:  " ++ (meant rule ++ codes "\n")

-- what is said of a rule that holds: the row, the rule's name, and what the domain says
abbrev pub doubt_text : Told → List ℕ
doubt_text told =
    codes "row " ++ decimal told.row ++ codes ": " ++ name_of told.rule ++ codes ": " ++ says told.rule told.part

-- what is said of a code that one row alone names: the row, the rule's name, and the code
abbrev pub lone_text : LoneCode → List ℕ
lone_text lone =
    codes "row " ++ decimal lone.row ++ codes ": lone-code: a vehicle type that no other row names: " ++ decimal lone.code
