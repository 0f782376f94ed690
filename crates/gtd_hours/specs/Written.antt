-- How opening hours are written, in the syntax of OpenStreetMap.
use Rattle.std.specs.Prelude.{ℕ, ◌+◌, ◌*◌, ◌/◌, ◌%◌, ◌==◌, ◌&&◌, nat_lt, Bool, true, false, not, List, [], ◌∷◌, ◌++◌, codes}
use Rattle.std.specs.Prelude.{decimal, if◌then◌else◌}
use Rattle.gtd_hours.specs.declared.hours.Selector.{Selector}
use Rattle.gtd_hours.specs.declared.hours.Selector.TheVariants.{Years, Months, Dates, Dated, Weeks, Weekdays, Nth, NthBack}
use Rattle.gtd_hours.specs.declared.hours.Selector.TheVariants.{Moved, Moving, Yearly}
use Rattle.gtd_hours.specs.declared.hours.WeekdayPlace.{WeekdayPlace}
use Rattle.gtd_hours.specs.declared.places.End.{End}
use Rattle.gtd_hours.specs.declared.places.End.TheVariants.{Date, Place}
use Rattle.gtd_hours.specs.declared.places.MovedPlace.{MovedPlace}
use Rattle.gtd_hours.specs.declared.hours.MonthDay.{MonthDay}
use Rattle.gtd_hours.specs.declared.hours.Weeks.{Weeks as WeekRange}
use Rattle.gtd_hours.specs.declared.hours.YearDate.{YearDate}
use Rattle.gtd_hours.specs.declared.hours.Kind.{Kind}
use Rattle.gtd_hours.specs.declared.hours.TimeRange.{TimeRange}
use Rattle.gtd_hours.specs.declared.hours.Link.{Link}
use Rattle.gtd_hours.specs.declared.hours.Link.TheVariants.{Instead, Also, Fallback}
use Rattle.gtd_hours.specs.declared.hours.Modifier.{Modifier}
use Rattle.gtd_hours.specs.declared.hours.Modifier.TheVariants.{Open, Closed}
use Rattle.gtd_hours.specs.declared.hours.Rule.{Rule}
use Rattle.gtd_hours.specs.declared.hours.Hours.{Hours}
use Rattle.gtd_hours.specs.declared.hours.YearlyDays.{YearlyDays}

-- a number of two digits, and one of four
abbrev pub two_digits : ℕ → List ℕ
two_digits n = (48 + n / 10) ∷ (48 + n % 10) ∷ []

abbrev pub four_digits : ℕ → List ℕ
four_digits n = (48 + n / 1000) ∷ (48 + n / 100 % 10) ∷ (48 + n / 10 % 10) ∷ (48 + n % 10) ∷ []

abbrev pub month_name : ℕ → List ℕ
month_name month =
    if month == 1 then codes "Jan"
    else if month == 2 then codes "Feb"
    else if month == 3 then codes "Mar"
    else if month == 4 then codes "Apr"
    else if month == 5 then codes "May"
    else if month == 6 then codes "Jun"
    else if month == 7 then codes "Jul"
    else if month == 8 then codes "Aug"
    else if month == 9 then codes "Sep"
    else if month == 10 then codes "Oct"
    else if month == 11 then codes "Nov"
    else codes "Dec"

-- Sunday is 1 and Saturday 7
abbrev pub weekday_name : ℕ → List ℕ
weekday_name weekday =
    if weekday == 1 then codes "Su"
    else if weekday == 2 then codes "Mo"
    else if weekday == 3 then codes "Tu"
    else if weekday == 4 then codes "We"
    else if weekday == 5 then codes "Th"
    else if weekday == 6 then codes "Fr"
    else codes "Sa"

-- `/` and the step of a range, unless it is 1
abbrev pub step_text : ℕ → List ℕ
step_text step = if step == 1 then [] else codes "/" ++ decimal step

-- Years that go on to 2799, the last one of the calendar, are written without it: `2026+`, or `2026/8` if they are at most 128.
abbrev pub go_on : ℕ → ℕ → ℕ → Bool
go_on first last step = (last == 2799) && (if step == 1 then nat_lt first 2799 else nat_lt 2799 (first + 128 * step))

-- One year by itself is written as a range if another kind of selectors follows: directly before a date it would be the
-- year of that date.
abbrev pub years_text : Bool → ℕ → ℕ → ℕ → List ℕ
years_text follows first last step =
    if (first == last) && (step == 1) && not follows then four_digits first
    else if go_on first last step then four_digits first ++ (if step == 1 then codes "+" else step_text step)
    else four_digits first ++ codes "-" ++ four_digits last ++ step_text step

abbrev pub weeks_text : ℕ → ℕ → ℕ → List ℕ
weeks_text first last step =
    if (first == last) && (step == 1) then decimal first
    else decimal first ++ codes "-" ++ decimal last ++ step_text step

abbrev pub months_text : ℕ → ℕ → List ℕ
months_text first last = if first == last then month_name first else month_name first ++ codes "-" ++ month_name last

abbrev pub month_day_text : MonthDay → List ℕ
month_day_text date = month_name date.month ++ codes " " ++ decimal date.day

abbrev pub dates_text : MonthDay → MonthDay → List ℕ
dates_text first last =
    if (first.month == last.month) && (first.day == last.day) then month_day_text first
    else month_day_text first ++ codes "-" ++ month_day_text last

abbrev pub year_date_text : YearDate → List ℕ
year_date_text date = four_digits date.year ++ codes " " ++ month_name date.month ++ codes " " ++ decimal date.day

abbrev pub is_one_date : YearDate → YearDate → Bool
is_one_date first last = (first.year == last.year) && (first.month == last.month) && (first.day == last.day)

abbrev pub dated_text : YearDate → YearDate → List ℕ
dated_text first last =
    if is_one_date first last then year_date_text first else year_date_text first ++ codes "-" ++ year_date_text last

abbrev pub weekdays_text : ℕ → ℕ → List ℕ
weekdays_text first last =
    if first == last then weekday_name first else weekday_name first ++ codes "-" ++ weekday_name last

-- a place from the beginning of the month, or back from its end, up to its number
abbrev pub begun_place : Bool → WeekdayPlace → List ℕ
begun_place back place = weekday_name place.weekday ++ (if back then codes "[-" else codes "[") ++ decimal place.number

-- the days after a place, or before it
abbrev pub offset_text : Bool → ℕ → List ℕ
offset_text before days =
    if days == 0 then []
    else (if before then codes " -" else codes " +") ++ decimal days ++ (if days == 1 then codes " day" else codes " days")

abbrev pub place_end : MovedPlace → List ℕ
place_end x = codes "]" ++ offset_text x.is_before x.days

abbrev pub moved_text : MovedPlace → List ℕ
moved_text x = begun_place x.is_back x.place ++ place_end x

-- an end of a range that moves
abbrev pub end_text : End → List ℕ
end_text (Date date) = month_day_text date
end_text (Place x) = month_name x.month ++ codes " " ++ moved_text x.place

-- Days of each of some years, which no text has: the years, the first of the days, and how many they are.
abbrev pub yearly_text : YearlyDays → List ℕ
yearly_text x =
    four_digits x.first ++ codes "-" ++ four_digits x.last ++ codes " " ++ month_name x.month ++ codes " " ++ decimal x.day
    ++ step_text x.days

-- a selector by itself, and whether another kind of selectors follows
abbrev pub selector_text : Bool → Selector → List ℕ
selector_text follows (Years years) = years_text follows years.first years.last years.step
selector_text follows (Months months) = months_text months.first months.last
selector_text follows (Dates dates) = dates_text dates.first dates.last
selector_text follows (Dated dates) = dated_text dates.first dates.last
selector_text follows (Weeks weeks) = weeks_text weeks.first weeks.last weeks.step
selector_text follows (Weekdays days) = weekdays_text days.first days.last
selector_text follows (Nth place) = weekday_name place.weekday ++ codes "[" ++ decimal place.number ++ codes "]"
selector_text follows (NthBack place) = weekday_name place.weekday ++ codes "[-" ++ decimal place.number ++ codes "]"
selector_text follows (Moved place) = moved_text place
selector_text follows (Moving range) = end_text range.first ++ codes "-" ++ end_text range.last
selector_text follows (Yearly days) = yearly_text days

-- ---- weeks that are written in one, and places that are

-- weeks to the last one, before those from the first one to one that is before them: `45-13`
abbrev pub are_back_weeks : WeekRange → WeekRange → Bool
are_back_weeks x y = (x.last == 53) && (x.step == 1) && (y.first == 1) && (y.step == 1) && nat_lt y.last x.first

-- places of one weekday that are moved by as many days in the same direction: `We[2,4] +2 days`
abbrev pub are_moved_alike : MovedPlace → MovedPlace → Bool
are_moved_alike x y =
    (x.place.weekday == y.place.weekday) && (x.days == y.days) && (if x.is_before then y.is_before else not y.is_before)

abbrev pub weeks_join : WeekRange → List Selector → Bool
weeks_join x (Weeks y ∷ ys) = are_back_weeks x y
weeks_join x ys = false

abbrev pub places_join : MovedPlace → List Selector → Bool
places_join x (Moved y ∷ ys) = are_moved_alike x y
places_join x ys = false

-- A selector is written in one with the first of those behind it.
abbrev pub joins : Selector → List Selector → Bool
joins (Weeks x) ys = weeks_join x ys
joins (Moved x) ys = places_join x ys
joins x ys = false

-- the first of those that are written in one
abbrev pub begun_text : Selector → List ℕ
begun_text (Weeks x) = decimal x.first
begun_text (Moved x) = begun_place x.is_back x.place
begun_text x = []

-- a later one of them, where these follow
abbrev pub joined_text : Selector → List Selector → List ℕ
joined_text (Weeks x) ys = codes "-" ++ decimal x.last
joined_text (Moved x) ys =
    (if x.is_back then codes ",-" else codes ",") ++ decimal x.place.number ++ (if places_join x ys then [] else place_end x)
joined_text x ys = []

-- a selector of a list that is not written in one with the one before it, where these follow
abbrev pub listed_text : Selector → List Selector → List ℕ
listed_text x ys = if joins x ys then begun_text x else selector_text false x

-- ---- kinds

-- those of one kind behind a selector of it, with commas between those that are not written in one
abbrev pub more_selectors_text : Selector → List Selector → List ℕ
more_selectors_text x [] = []
more_selectors_text x (y ∷ ys) =
    (if joins x (y ∷ ys) then joined_text y ys else codes "," ++ listed_text y ys) ++ more_selectors_text y ys

-- a selector by itself, or a list that begins with it
abbrev pub selectors_text : Bool → Selector → List Selector → List ℕ
selectors_text follows x [] = selector_text follows x
selectors_text follows x (y ∷ ys) = listed_text x (y ∷ ys) ++ more_selectors_text x (y ∷ ys)

-- the word before weeks
abbrev pub kind_word : Selector → List ℕ
kind_word (Years years) = []
kind_word (Months months) = []
kind_word (Dates dates) = []
kind_word (Dated dates) = []
kind_word (Weeks weeks) = codes "week "
kind_word (Weekdays days) = []
kind_word (Nth place) = []
kind_word (NthBack place) = []
kind_word (Moved place) = []
kind_word (Moving range) = []
kind_word (Yearly days) = []

abbrev pub kind_text : Bool → List Selector → List ℕ
kind_text follows [] = []
kind_text follows (x ∷ xs) = kind_word x ++ selectors_text follows x xs

abbrev pub is_some_kind : List Kind → Bool
is_some_kind [] = false
is_some_kind (kind ∷ kinds) = true

-- the kinds, with spaces between them
abbrev pub kinds_text : List Kind → List ℕ
kinds_text [] = []
kinds_text (kind ∷ kinds) =
    kind_text (is_some_kind kinds) kind.selectors.items ++ (if is_some_kind kinds then codes " " else []) ++ kinds_text kinds

unfoldable pub clock_text : ℕ → List ℕ
clock_text minutes = two_digits (minutes / 60) ++ codes ":" ++ two_digits (minutes % 60)

abbrev pub time_text : TimeRange → List ℕ
time_text time = clock_text time.begin ++ codes "-" ++ clock_text time.last

abbrev pub more_times_text : List TimeRange → List ℕ
more_times_text [] = []
more_times_text (t ∷ ts) = codes "," ++ time_text t ++ more_times_text ts

abbrev pub times_text : List TimeRange → List ℕ
times_text [] = []
times_text (t ∷ ts) = time_text t ++ more_times_text ts

abbrev pub is_some_time : List TimeRange → Bool
is_some_time [] = false
is_some_time (time ∷ times) = true

abbrev pub is_also : Link → Bool
is_also Instead = false
is_also Also = true
is_also Fallback = false

-- the selectors and the times of a rule; where it has neither, all days are meant
abbrev pub spans_text : List Kind → List TimeRange → List ℕ
spans_text [] [] = codes "24/7"
spans_text [] (t ∷ ts) = times_text (t ∷ ts)
spans_text (kind ∷ kinds) [] = kinds_text (kind ∷ kinds)
spans_text (kind ∷ kinds) (t ∷ ts) = kinds_text (kind ∷ kinds) ++ codes " " ++ times_text (t ∷ ts)

-- The comma of an additional rule would go on with the list that this rule ends in: with its times, if the next rule is times
-- alone; with its selectors, if it has no times.
abbrev pub goes_into : Rule → Rule → Bool
goes_into rule next =
    if is_some_time rule.times.items then is_some_time next.times.items && not (is_some_kind next.kinds.items)
    else is_some_kind rule.kinds.items

-- An open rule needs a word for it where a comma would go on with its list. Behind the word the comma begins a rule.
abbrev pub needs_word : Rule → List Rule → Bool
needs_word rule [] = false
needs_word rule (next ∷ rules) = is_also next.link && goes_into rule next

abbrev pub modifier_text : Modifier → Bool → List ℕ
modifier_text Open true = codes " open"
modifier_text Open false = []
modifier_text Closed needed = codes " off"

-- a rule, and the rules behind it
abbrev pub rule_text : Rule → List Rule → List ℕ
rule_text rule rules = spans_text rule.kinds.items rule.times.items ++ modifier_text rule.modifier (needs_word rule rules)

-- what stands before a rule that is not the first
abbrev pub link_text : Link → List ℕ
link_text Instead = codes "; "
link_text Also = codes ", "
link_text Fallback = codes " || "

abbrev pub more_rules_text : List Rule → List ℕ
more_rules_text [] = []
more_rules_text (rule ∷ rules) = link_text rule.link ++ rule_text rule rules ++ more_rules_text rules

abbrev pub rules_text : List Rule → List ℕ
rules_text [] = []
rules_text (rule ∷ rules) = rule_text rule rules ++ more_rules_text rules

abbrev pub hours_text : Hours → List ℕ
hours_text hours = rules_text hours.rules.items
