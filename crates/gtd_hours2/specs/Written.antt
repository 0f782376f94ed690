-- How rules are strictly written: the mended text.
use Rattle.std.specs.Prelude.{ℕ, ◌-◌, ◌/◌, ◌%◌, ◌==◌, ◌&&◌, ◌||◌, not, nat_lt, Bool, true, false, is_some}
use Rattle.std.specs.Prelude.{List, [], ◌∷◌, ◌++◌, take, drop, codes, decimal, if◌then◌else◌, Option, Some, None}
use Rattle.gtd_hours2.specs.declared.values.CommentRange.{CommentRange}
use Rattle.gtd_hours2.specs.declared.values.DayOffset.{DayOffset}
use Rattle.gtd_hours2.specs.declared.values.HolidayKind.{HolidayKind}
use Rattle.gtd_hours2.specs.declared.values.HolidayKind.TheVariants as holiday
use Rattle.gtd_hours2.specs.declared.values.PartKind.{PartKind}
use Rattle.gtd_hours2.specs.declared.values.PartKind.TheVariants as kind
use Rattle.gtd_hours2.specs.declared.values.RuleLink.{RuleLink}
use Rattle.gtd_hours2.specs.declared.values.RuleLink.TheVariants as link
use Rattle.gtd_hours2.specs.declared.values.RulePart.{RulePart}
use Rattle.gtd_hours2.specs.declared.values.RulePart.TheVariants as part
use Rattle.gtd_hours2.specs.declared.values.RuleWord.{RuleWord}
use Rattle.gtd_hours2.specs.declared.values.RuleWord.TheVariants as word
use Rattle.gtd_hours2.specs.declared.values.SunEvent.{SunEvent}
use Rattle.gtd_hours2.specs.declared.values.SunEvent.TheVariants as event
use Rattle.gtd_hours2.specs.declared.values.TimeOfDay.{TimeOfDay}
use Rattle.gtd_hours2.specs.declared.values.TimeOfDay.TheVariants as time
use Rattle.gtd_hours2.specs.declared.values.TimeTail.{TimeTail}
use Rattle.gtd_hours2.specs.declared.values.TimeTail.TheVariants as tail
use Rattle.gtd_hours2.specs.declared.values.YearlyDay.{YearlyDay}
use Rattle.gtd_hours2.specs.declared.values.YearlyDay.TheVariants as yearly
use Rattle.gtd_hours2.specs.Rules.{Rule, code, has, has_days, has_times, is_some_part, of_kind, says}

-- ---- names and numbers

abbrev pub month_name : ℕ → List ℕ
month_name month =
    if month == 1 then codes "Jan"
    else if month == 2 then codes "Feb"
    else if month == 3 then codes "Mar"
    else if month == 4 then codes "Apr"
    else if month == 5 then codes "May"
    else if month == 6 then codes "Jun"
    else if month == 7 then codes "Jul"
    else if month == 8 then codes "Aug"
    else if month == 9 then codes "Sep"
    else if month == 10 then codes "Oct"
    else if month == 11 then codes "Nov"
    else codes "Dec"

abbrev pub weekday_name : ℕ → List ℕ
weekday_name weekday =
    if weekday == 1 then codes "Su"
    else if weekday == 2 then codes "Mo"
    else if weekday == 3 then codes "Tu"
    else if weekday == 4 then codes "We"
    else if weekday == 5 then codes "Th"
    else if weekday == 6 then codes "Fr"
    else codes "Sa"

-- a number of two digits at least
abbrev pub two_digits : ℕ → List ℕ
two_digits n = if nat_lt n 10 then codes "0" ++ decimal n else decimal n

unfoldable pub clock_text : ℕ → List ℕ
clock_text minutes = two_digits (minutes / 60) ++ codes ":" ++ two_digits (minutes % 60)

-- `/` and the step of a range, unless it is 1
abbrev pub step_text : ℕ → List ℕ
step_text step = if step == 1 then [] else codes "/" ++ decimal step

abbrev pub offset_text : DayOffset → List ℕ
offset_text o =
    if o.days == 0 then []
    else (if o.is_before then codes " -" else codes " +") ++ decimal o.days ++ (if o.days == 1 then codes " day" else codes " days")

-- ---- days of each year

abbrev pub same_flag : Bool → Bool → Bool
same_flag b c = if b then c else not c

abbrev pub same_offset : DayOffset → DayOffset → Bool
same_offset o p = (o.days == p.days) && same_flag o.is_before p.is_before

-- which of the weekdays of a month, from its beginning or back from its end
abbrev pub nth_text : Bool → ℕ → List ℕ
nth_text is_back number = (if is_back then codes "-" else []) ++ decimal number

abbrev pub yearly_text : YearlyDay → List ℕ
yearly_text (yearly.Date month day) = month_name month ++ codes " " ++ decimal day
yearly_text (yearly.NthWeekday month weekday number is_back offset) =
    month_name month ++ codes " " ++ weekday_name weekday ++ codes "[" ++ nth_text is_back number ++ codes "]" ++ offset_text offset
yearly_text (yearly.Easter offset) = codes "easter" ++ offset_text offset

abbrev pub same_day : YearlyDay → YearlyDay → Bool
same_day (yearly.Date m d) (yearly.Date n e) = (m == n) && (d == e)
same_day (yearly.NthWeekday m v k b o) (yearly.NthWeekday n w l c p) =
    (m == n) && (v == w) && (k == l) && same_flag b c && same_offset o p
same_day (yearly.Easter o) (yearly.Easter p) = same_offset o p
same_day a b = false

-- ---- parts

-- the last value of a range, unless it is the first one
abbrev pub to_text : Bool → List ℕ → List ℕ
to_text is_one last = if is_one then [] else codes "-" ++ last

-- One year by itself is written as a range if other selectors follow: directly before a date it would be the year of that date.
abbrev pub years_text : Bool → ℕ → Option ℕ → ℕ → List ℕ
years_text follows first None step = decimal first ++ (if step == 1 then codes "+" else step_text step)
years_text follows first (Some last) step =
    decimal first ++ (if (first == last) && (step == 1) && not follows then [] else codes "-" ++ decimal last ++ step_text step)

abbrev pub months_text : ℕ → ℕ → List ℕ
months_text first last = month_name first ++ to_text (first == last) (month_name last)

abbrev pub days_text : YearlyDay → YearlyDay → List ℕ
days_text first last = yearly_text first ++ to_text (same_day first last) (yearly_text last)

abbrev pub dated_text : ℕ → YearlyDay → ℕ → YearlyDay → List ℕ
dated_text year first last_year last =
    decimal year ++ codes " " ++ yearly_text first
    ++ to_text ((year == last_year) && same_day first last) (decimal last_year ++ codes " " ++ yearly_text last)

abbrev pub weeks_text : ℕ → ℕ → ℕ → List ℕ
weeks_text first last step = decimal first ++ (if (first == last) && (step == 1) then [] else codes "-" ++ decimal last ++ step_text step)

abbrev pub holidays_text : HolidayKind → DayOffset → List ℕ
holidays_text holiday.Public offset = codes "PH" ++ offset_text offset
holidays_text holiday.School offset = codes "SH"

abbrev pub weekdays_text : ℕ → ℕ → List ℕ
weekdays_text first last = weekday_name first ++ to_text (first == last) (weekday_name last)

abbrev pub event_name : SunEvent → List ℕ
event_name event.Sunrise = codes "sunrise"
event_name event.Sunset = codes "sunset"
event_name event.Dawn = codes "dawn"
event_name event.Dusk = codes "dusk"

abbrev pub event_text : SunEvent → ℕ → Bool → List ℕ
event_text e minutes is_before =
    if minutes == 0 then event_name e
    else codes "(" ++ event_name e ++ (if is_before then codes "-" else codes "+") ++ clock_text minutes ++ codes ")"

abbrev pub time_text : TimeOfDay → List ℕ
time_text (time.Clock minute) = clock_text minute
time_text (time.Event e minutes is_before) = event_text e minutes is_before

abbrev pub end_text : Option TimeOfDay → List ℕ
end_text None = []
end_text (Some last) = codes "-" ++ time_text last

abbrev pub tail_text : TimeTail → List ℕ
tail_text tail.Plain = []
tail_text tail.Open = codes "+"
tail_text (tail.Every minutes) = codes "/" ++ decimal minutes

-- A part, where other selectors follow its list or not. Weekdays of a month are without the closing bracket.
abbrev pub part_text : Bool → RulePart → List ℕ
part_text follows (part.Years first last step) = years_text follows first last step
part_text follows (part.Months first last) = months_text first last
part_text follows (part.Days first last) = days_text first last
part_text follows (part.Dated year first last_year last) = dated_text year first last_year last
part_text follows (part.Weeks first last step) = weeks_text first last step
part_text follows (part.Holidays which offset) = holidays_text which offset
part_text follows (part.Weekdays first last) = weekdays_text first last
part_text follows (part.NthWeekday weekday number is_back offset) = weekday_name weekday ++ codes "[" ++ nth_text is_back number
part_text follows (part.Time first last t) = time_text first ++ end_text last ++ tail_text t

-- ---- lists: weekdays of a month that are the same but for their numbers share their brackets

abbrev pub share : RulePart → RulePart → Bool
share (part.NthWeekday v k b o) (part.NthWeekday w l c p) = (v == w) && same_offset o p
share x y = false

-- a later number in the same brackets
abbrev pub shared_text : RulePart → List ℕ
shared_text (part.NthWeekday weekday number is_back offset) = nth_text is_back number
shared_text x = []

abbrev pub closing_text : RulePart → List ℕ
closing_text (part.NthWeekday weekday number is_back offset) = codes "]" ++ offset_text offset
closing_text x = []

-- what comes after a part
abbrev pub next_text : RulePart → RulePart → List ℕ
next_text x y = if share x y then codes "," ++ shared_text y else closing_text x ++ codes "," ++ part_text false y

abbrev pub more_text : RulePart → List RulePart → List ℕ
more_text x [] = closing_text x
more_text x (y ∷ ys) = next_text x y ++ more_text y ys

abbrev pub list_text : Bool → List RulePart → List ℕ
list_text follows [] = []
list_text follows (x ∷ xs) = part_text (follows && not (is_some_part xs)) x ++ more_text x xs

-- a part by what stands before it in the list, and the end of the list
abbrev pub listed_text : Option RulePart → Bool → RulePart → List ℕ
listed_text None follows x = part_text follows x
listed_text (Some before) follows x = next_text before x

abbrev pub list_end_text : Option RulePart → List ℕ
list_end_text None = []
list_end_text (Some x) = closing_text x

-- the rest of a list
abbrev pub rest_text : Option RulePart → Bool → List RulePart → List ℕ
rest_text None follows xs = list_text follows xs
rest_text (Some before) follows xs = more_text before xs

-- ---- rules

abbrev pub kind_word : PartKind → List ℕ
kind_word kind.Weeks = codes "week "
kind_word k = []

abbrev pub kind_text : Rule → PartKind → List ℕ
kind_text rule k =
    kind_word k ++ list_text ((code k == code kind.Years) && has_days rule) (of_kind rule.head.leads k rule.parts)

abbrev pub space_text : Bool → List ℕ
space_text follows = if follows then codes " " else []

-- the kinds that a rule has, with spaces between them, and before the first if it follows anything
abbrev pub kinds_text : Rule → Bool → List PartKind → List ℕ
kinds_text rule follows [] = []
kinds_text rule follows (k ∷ ks) =
    if has k rule then space_text follows ++ kind_text rule k ++ kinds_text rule true ks else kinds_text rule follows ks

abbrev pub spans_text : Rule → List ℕ
spans_text rule =
    (if rule.head.is_always then codes "24/7" else [])
    ++ kinds_text rule rule.head.is_always
    (kind.Years ∷ kind.MonthDays ∷ kind.Weeks ∷ kind.LeadingHolidays ∷ kind.Days ∷ kind.Times ∷ [])

abbrev pub has_spans : Rule → Bool
has_spans rule = rule.head.is_always || is_some_part rule.parts

-- The comma before an additional rule would go on with the list that this rule ends in, or leave its days without times.
abbrev pub goes_into : Rule → Rule → Bool
goes_into rule next = not (has_times rule) || (has_times next && not (has kind.Years next || has_days next || next.head.is_always))

abbrev pub is_also : RuleLink → Bool
is_also link.Instead = false
is_also link.Also = true
is_also link.Fallback = false

abbrev pub goes_on : Rule → List Rule → Bool
goes_on rule [] = false
goes_on rule (next ∷ rules) = is_also next.head.link && goes_into rule next

-- an open rule has a word for it before a comment, and where it has nothing else or a comma would go on with it
abbrev pub needs_word : Rule → List Rule → Bool
needs_word rule rules = is_some rule.head.comment || not (has_spans rule) || goes_on rule rules

abbrev pub word_text : Bool → Bool → RuleWord → List ℕ
word_text follows needed word.Open = if needed then space_text follows ++ codes "open" else []
word_text follows needed word.Off = space_text follows ++ codes "off"
word_text follows needed word.Unknown = space_text follows ++ codes "unknown"

-- the comment as it is in the text that the rules were read from
abbrev pub comment_text : List ℕ → Option CommentRange → List ℕ
comment_text text None = []
comment_text text (Some c) = codes " \"" ++ take (c.to - c.from) (drop c.from text) ++ codes "\""

abbrev pub rule_text : List ℕ → Rule → List Rule → List ℕ
rule_text text rule rules =
    spans_text rule ++ word_text (has_spans rule) (needs_word rule rules) (says rule) ++ comment_text text rule.head.comment

abbrev pub link_text : RuleLink → List ℕ
link_text link.Instead = codes "; "
link_text link.Also = codes ", "
link_text link.Fallback = codes " || "

abbrev pub more_rules_text : List ℕ → List Rule → List ℕ
more_rules_text text [] = []
more_rules_text text (rule ∷ rules) = link_text rule.head.link ++ rule_text text rule rules ++ more_rules_text text rules

abbrev pub rules_text : List ℕ → List Rule → List ℕ
rules_text text [] = []
rules_text text (rule ∷ rules) = rule_text text rule rules ++ more_rules_text text rules
