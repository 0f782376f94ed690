-- Which parts of rules the tokens of a part are, or which of them is out of range. Of which classes they are is known: what the
-- grammar cuts off is of a form that is named below.
use Rattle.std.specs.Prelude.{◌≡◌, ℕ, zero, suc, ◌+◌, ◌-◌, ◌*◌, ◌&&◌, ◌||◌, ◌==◌, not, nat_le, nat_lt, Bool, true, false, List, [], ◌∷◌, ◌++◌, drop}
use Rattle.std.specs.Prelude.{Option, Some, None, Result, Ok, Err, if◌then◌else◌, pos, int_le, int_lt, ℤ, ◌+ℤ◌}
use Rattle.gtd_calendar.specs.Calendar.{month_length}
use Rattle.gtd_hours_grammar2.specs.Steps.{code}
use Rattle.gtd_hours_grammar2.specs.declared.class.Class.{Class}
use Rattle.gtd_hours_grammar2.specs.declared.class.Class.TheVariants as class
use Rattle.gtd_hours_grammar2.specs.declared.step.Cut.{Cut}
use Rattle.gtd_hours_grammar2.specs.declared.step.Cut.TheVariants as cut
use Rattle.gtd_hours_tokens2.specs.declared.token.Event.{Event}
use Rattle.gtd_hours_tokens2.specs.declared.token.Event.TheVariants as sun
use Rattle.gtd_hours_tokens2.specs.declared.token.TokenKind.{TokenKind}
use Rattle.gtd_hours_tokens2.specs.declared.token.TokenKind.TheVariants as token
use Rattle.gtd_hours_tokens2.specs.declared.token.Token.{Token}
use Rattle.gtd_hours2.specs.declared.values.DayOffset.{DayOffset}
use Rattle.gtd_hours2.specs.declared.values.HolidayKind.TheVariants as holiday
use Rattle.gtd_hours2.specs.declared.values.RulePart.{RulePart}
use Rattle.gtd_hours2.specs.declared.values.RulePart.TheVariants as part
use Rattle.gtd_hours2.specs.declared.values.SunEvent.{SunEvent}
use Rattle.gtd_hours2.specs.declared.values.SunEvent.TheVariants as event
use Rattle.gtd_hours2.specs.declared.values.TimeOfDay.{TimeOfDay}
use Rattle.gtd_hours2.specs.declared.values.TimeOfDay.TheVariants as time
use Rattle.gtd_hours2.specs.declared.values.TimeTail.{TimeTail}
use Rattle.gtd_hours2.specs.declared.values.TimeTail.TheVariants as tail
use Rattle.gtd_hours2.specs.declared.values.YearlyDay.{YearlyDay}
use Rattle.gtd_hours2.specs.declared.values.YearlyDay.TheVariants as yearly
use Rattle.gtd_hours_text2.specs.Dated.{is_sound, is_year}
use Rattle.gtd_hours_text2.specs.declared.brackets.BracketState.{BracketState}
use Rattle.gtd_hours_text2.specs.declared.brackets.BracketState.TheVariants as brackets
use Rattle.gtd_hours_text2.specs.declared.brackets.NthNumber.{NthNumber}
use Rattle.gtd_hours2.specs.Days.{day_in}
use Rattle.gtd_hours2.specs.Opening.{are_many}

-- what a token is to the grammar
abbrev pub number_class : ℕ → ℕ → Class
number_class value digits =
    if digits == 4 then class.Year else if (digits == 2) && (value == 24) then class.Twenty else class.Number

abbrev pub class_of : TokenKind → Class
class_of (token.Number value digits) = number_class value digits
class_of (token.Time hour minute) = class.Time
class_of (token.Month m) = class.Month
class_of (token.Weekday d) = class.Weekday
class_of token.PublicHoliday = class.PublicHoliday
class_of token.SchoolHoliday = class.SchoolHoliday
class_of token.Easter = class.Easter
class_of token.Week = class.Week
class_of (token.Event e) = class.Event
class_of (token.Word w) = class.Word
class_of token.Day = class.Day
class_of token.Comment = class.Comment
class_of token.Comma = class.Comma
class_of token.Semicolon = class.Semicolon
class_of token.Bars = class.Bars
class_of token.Dash = class.Dash
class_of token.Slash = class.Slash
class_of token.Colon = class.Colon
class_of token.Open = class.Open
class_of token.Close = class.Close
class_of token.Plus = class.Plus
class_of token.Paren = class.Paren
class_of token.Unparen = class.Unparen

-- ---- reading: a value and the tokens after it, or the place of a token that is out of range

infixl 10 ◌>>=◌
abbrev pub ◌>>=◌ : {A B : Type 0} → Result A ℕ → (A → Result B ℕ) → Result B ℕ
(Ok x) >>= f = f x
(Err place) >>= f = Err place

abbrev pub Read : Type 0 → Type 0
Read A = Result (A × List Token) ℕ

abbrev pub last_part : List RulePart → Option RulePart
last_part [] = None
last_part (x ∷ []) = Some x
last_part (x ∷ y ∷ xs) = last_part (y ∷ xs)

-- what is read comes after what there was
abbrev pub pushed : List RulePart → Result (List RulePart) ℕ → Result (List RulePart) ℕ
pushed before (Ok xs) = Ok (before ++ xs)
pushed before (Err place) = Err place

-- what a call answers, seen by view, is what is read
abbrev pub Gives : {X Y : Type 0} → (X → Y) → Result X ℕ → Result Y ℕ → Type 0
Gives view (Ok x) read = read ≡ Ok (view x)
Gives view (Err place) read = read ≡ Err place

abbrev pub is : Class → List Token → Bool
is k [] = false
is k (t ∷ ts) = code (class_of t.kind) == code k

-- the place of the last token, or another one if there is none
abbrev pub last_from : ℕ → List Token → ℕ
last_from place [] = place
last_from place (t ∷ ts) = last_from t.from ts

abbrev pub last_place : List Token → ℕ
last_place ts = last_from 0 ts

abbrev pub place_of : List Token → ℕ
place_of [] = 0
place_of (t ∷ ts) = t.from

abbrev pub if_in : Bool → ℕ → List Token → ℕ → Read ℕ
if_in fits value ts place = if fits then Ok (value, ts) else Err place

-- a number of so many digits at most, from one value to another
abbrev pub number : ℕ → ℕ → ℕ → List Token → Read ℕ
number most low high [] = Err 0
number most low high (t ∷ ts) = of_kind t.kind
  where
    of_kind : TokenKind → Read ℕ
    of_kind (token.Number value digits) = if_in (nat_le digits most && nat_le low value && nat_le value high) value ts t.from
    of_kind kind = Err t.from

-- a year, not before another one
abbrev pub year : ℕ → List Token → Read ℕ
year low ts = if is class.Year ts then number 4 low 2799 ts else Err (place_of ts)

abbrev pub step : List Token → Read ℕ
step ts = number 4 1 9999 ts

abbrev pub month_of : TokenKind → ℕ
month_of (token.Month m) = m
month_of kind = 0

abbrev pub weekday_of : TokenKind → ℕ
weekday_of (token.Weekday d) = d
weekday_of kind = 0

abbrev pub first_kind : List Token → TokenKind
first_kind [] = token.Comma
first_kind (t ∷ ts) = t.kind

abbrev pub month : List Token → ℕ
month ts = month_of (first_kind ts)

abbrev pub weekday : List Token → ℕ
weekday ts = weekday_of (first_kind ts)

-- ---- offsets: ` +1 day`

abbrev pub none : DayOffset
none = record { days = 0; is_before = false }

-- a sign and a number with `day` behind them
abbrev pub has_offset : List Token → Bool
has_offset ts = is class.Day (drop 1 (drop 1 ts))

-- as many digits as the most days have
abbrev pub days_at : Bool → ℕ → List Token → Read DayOffset
days_at is_before most ts = do
  n ← number (if nat_lt most 100 then 2 else 3) 1 most ts
  Ok (record { days = n.0; is_before = is_before }, drop 1 n.1)

abbrev pub offset : ℕ → List Token → Read DayOffset
offset most ts = if has_offset ts then days_at (is class.Dash ts) most (drop 1 ts) else Ok (none, ts)

-- an offset of a place leads to no week before the fourth last, and none is of a fifth place
abbrev pub suits : DayOffset → ℕ → Bool → Bool
suits o number is_back =
    (o.days == 0) || (nat_le number 4 && not (is_back && o.is_before && nat_lt 28 (7 * number + o.days)))

-- ---- years: `2024`, `2024-2030`, `2024-2030/2`, `2024+`, `2024/8`

-- A last year of 2799 is left out where the years go on to it anyway.
abbrev pub goes_on : ℕ → ℕ → ℕ → Bool
goes_on first last step = (last == 2799) && (if step == 1 then nat_lt first 2799 else not (are_many first step))

abbrev pub stepped : ℕ → ℕ → ℕ → RulePart
stepped first last step = part.Years first (if goes_on first last step then None else Some last) step

-- years without a last one
abbrev pub endless : ℕ → ℕ → RulePart
endless first step = if step == 1 then stepped first 2799 1 else part.Years first None step

abbrev pub years_to : ℕ → List Token → Result RulePart ℕ
years_to first ts = do
  last ← year first ts
  s ← if is class.Slash last.1 then step (drop 1 last.1) else Ok (1, [])
  Ok (stepped first last.0 s.0)

abbrev pub years_on : ℕ → List Token → Result RulePart ℕ
years_on first ts =
    if is class.Plus ts then Ok (endless first 1)
    else if is class.Slash ts then (do
      s ← step (drop 1 ts)
      Ok (endless first s.0))
    else if is class.Dash ts then years_to first (drop 1 ts)
    else Ok (part.Years first (Some first) 1)

abbrev pub years : List Token → Result RulePart ℕ
years ts = do
  first ← year 1800 ts
  years_on first.0 first.1

-- ---- ends: `Dec 24`, `24`, `Mar Su[-1] +1 day`, `easter -2 days`

abbrev pub longest : Option ℕ → ℕ → ℕ
longest None m = month_length (pos 2000) m
longest (Some y) m = month_length (pos y) m

abbrev pub day : Option ℕ → ℕ → List Token → Read YearlyDay
day y m ts = do
  d ← number 2 1 (longest y m) ts
  Ok (yearly.Date m d.0, d.1)

abbrev pub place_offset : ℕ → ℕ → ℕ → Bool → List Token → Read YearlyDay
place_offset m w n is_back ts = do
  o ← offset 27 ts
  if suits o.0 n is_back then Ok (yearly.NthWeekday m w n is_back o.0, o.1) else Err (place_of ts)

abbrev pub place : ℕ → ℕ → Bool → List Token → Read YearlyDay
place m w is_back ts = do
  n ← number 1 1 4 ts
  place_offset m w n.0 is_back (drop 1 n.1)

-- after `Su[`
abbrev pub place_at : ℕ → ℕ → List Token → Read YearlyDay
place_at m w ts = if is class.Dash ts then place m w true (drop 1 ts) else place m w false ts

abbrev pub day_or_place : Option ℕ → ℕ → List Token → Read YearlyDay
day_or_place y m ts = if is class.Weekday ts then place_at m (weekday ts) (drop 1 (drop 1 ts)) else day y m ts

abbrev pub easter : List Token → Read YearlyDay
easter ts = do
  o ← offset 366 (drop 1 ts)
  Ok (yearly.Easter o.0, o.1)

-- an end, in a year if one is said; a day by itself is of this month
abbrev pub end : Option ℕ → ℕ → List Token → Read YearlyDay
end y m ts =
    if is class.Easter ts then easter ts
    else if is class.Month ts then day_or_place y (month ts) (drop 1 ts)
    else day y m ts

-- ---- months and days

abbrev pub end_month : YearlyDay → ℕ
end_month (yearly.Date m d) = m
end_month e = 0

-- where a list of days goes on: month and year of the last date
abbrev pub listed_month : Option RulePart → ℕ
listed_month (Some (part.Days first last)) = end_month last
listed_month (Some (part.Dated y first z last)) = end_month last
listed_month other = 0

abbrev pub listed_year : Option RulePart → Option ℕ
listed_year (Some (part.Dated y first z last)) = Some z
listed_year other = None

-- the year of a last day without one: the next, where it would come before the first
abbrev pub is_before : ℕ → YearlyDay → YearlyDay → Bool
is_before y first last =
    is_year y && is_sound first && is_sound last && int_lt (day_in last (pos y)) (day_in first (pos y))

abbrev pub year_after : ℕ → YearlyDay → YearlyDay → ℕ
year_after y first last = if is_before y first last then y + 1 else y

-- a date that its year has
abbrev pub fits_year : ℕ → YearlyDay → Bool
fits_year y (yearly.Date m d) = nat_le d (month_length (pos y) m)
fits_year y e = true

-- days of a year, up to a day of the same year or a later one: they end where they begin or later, at most 36,600 days in all
abbrev pub is_range : ℤ → ℤ → Bool
is_range first last = int_le first last && int_lt last (first +ℤ pos 36600)

abbrev pub is_dated : ℕ → YearlyDay → ℕ → YearlyDay → Bool
is_dated y first z last =
    (is_year y && is_year z && is_sound first && is_sound last) && is_range (day_in first (pos y)) (day_in last (pos z))

-- month days: the year before them, if it is a selector of its own, and the part
abbrev pub MonthDays : Type 0
MonthDays = Result (Option ℕ × RulePart) ℕ

abbrev pub alone_in_year : RulePart → MonthDays
alone_in_year x = Ok (None, x)

abbrev pub dated : ℕ → YearlyDay → ℕ → YearlyDay → ℕ → MonthDays
dated y first z last place =
    if fits_year z last && is_dated y first z last then alone_in_year (part.Dated y first z last) else Err place

-- from a day without a year
abbrev pub range : YearlyDay → List Token → MonthDays
range first ts =
    if is class.Year ts then Err (place_of ts)
    else (do
      last ← end None (end_month first) ts
      alone_in_year (part.Days first last.0))

-- from a day of a year
abbrev pub range_from : ℕ → YearlyDay → List Token → ℕ → MonthDays
range_from y first ts place =
    if is class.Year ts then (do
      z ← year 1800 ts
      last ← end (Some z.0) (end_month first) z.1
      dated y first z.0 last.0 place)
    else (do
      last ← end None (end_month first) ts
      dated y first (year_after y first last.0) last.0 place)

abbrev pub days_without : ℕ → List Token → MonthDays
days_without m ts = do
  first ← end None m ts
  if is class.Dash first.1 then range first.0 (drop 1 first.1) else alone_in_year (part.Days first.0 first.0)

abbrev pub days_of : ℕ → ℕ → List Token → MonthDays
days_of y m ts = do
  first ← end (Some y) m ts
  if is class.Dash first.1 then range_from y first.0 (drop 1 first.1) (last_place ts)
      else alone_in_year (part.Dated y first.0 y first.0)

abbrev pub days : Option ℕ → ℕ → List Token → MonthDays
days None m ts = days_without m ts
days (Some y) m ts = days_of y m ts

-- `Apr`, `Apr-Sep`, where a year is a selector of its own; `2024 Dec-2026 Mar`
abbrev pub months_of_years : ℕ → ℕ → List Token → MonthDays
months_of_years y m ts = do
  z ← year y ts
  dated y (yearly.Date m 1) z.0 (yearly.Date (month z.1) (month_length (pos z.0) (month z.1))) (last_place ts)

abbrev pub or_zero : Option ℕ → ℕ
or_zero None = 0
or_zero (Some y) = y

abbrev pub are_months : List Token → Bool
are_months [] = true
are_months (dash ∷ ts) = (code (class_of dash.kind) == code class.Dash) && (is class.Month ts || is class.Year ts)

abbrev pub months : Option ℕ → ℕ → List Token → MonthDays
months y m [] = Ok (y, part.Months m m)
months y m (dash ∷ ts) = if is class.Month ts then Ok (y, part.Months m (month ts)) else months_of_years (or_zero y) m ts

abbrev pub month_days_of : Option ℕ → ℕ → List Token → MonthDays
month_days_of y m ts =
    if is class.Month ts && are_months (drop 1 ts) then months y (month ts) (drop 1 ts) else days y m ts

abbrev pub month_days : Option RulePart → List Token → MonthDays
month_days before ts =
    if is class.Year ts then (do
      y ← year 1800 ts
      month_days_of (Some y.0) 0 y.1)
    else if is class.Month ts || is class.Easter ts then month_days_of None 0 ts
    else month_days_of (listed_year before) (listed_month before) ts

abbrev pub with_year : Option ℕ → RulePart → List RulePart
with_year None x = x ∷ []
with_year (Some y) x = part.Years y (Some y) 1 ∷ x ∷ []

abbrev pub in_order : MonthDays → Result (List RulePart) ℕ
in_order (Ok x) = Ok (with_year x.0 x.1)
in_order (Err place) = Err place

-- ---- weeks: `10`, `10-20`, `10-20/2`, `46-12`

-- one that goes back has no step
abbrev pub week_step : ℕ → ℕ → ℕ → List Token → Result RulePart ℕ
week_step first last place ts =
    if not (is class.Slash ts) then Ok (part.Weeks first last 1)
    else if nat_lt last first then Err place
    else (do
      s ← step (drop 1 ts)
      Ok (part.Weeks first last s.0))

abbrev pub week_range : ℕ → List Token → Result RulePart ℕ
week_range first ts = do
  last ← number 2 1 53 ts
  week_step first last.0 (place_of ts) last.1

abbrev pub weeks : List Token → Result RulePart ℕ
weeks ts = do
  first ← number 2 1 53 ts
  if is class.Dash first.1 then week_range first.0 (drop 1 first.1) else Ok (part.Weeks first.0 first.0 1)

-- ---- weekdays and holidays: `Mo`, `Mo-Fr`, `We[1,3-4,-1] +2 days`, `PH -1 day`, `SH`

abbrev pub nth : ℕ → Bool → NthNumber
nth number is_back = record { number = number; is_back = is_back }

abbrev pub nths : ℕ → ℕ → List NthNumber
nths first zero = []
nths first (suc k) = nth first false ∷ nths (first + 1) k

abbrev pub read_so_far : BracketState → List NthNumber
read_so_far (brackets.One x) = x ∷ []
read_so_far (brackets.Span a b) = nths a (b + 1 - a)
read_so_far other = []

abbrev pub after_dash : BracketState → BracketState
after_dash (brackets.One x) = brackets.Dash x.number
after_dash other = brackets.Minus

abbrev pub after_number : BracketState → ℕ → BracketState
after_number brackets.Minus n = brackets.One (nth n true)
after_number (brackets.Dash a) n = brackets.Span a n
after_number other n = brackets.One (nth n false)

abbrev pub lowest : BracketState → ℕ
lowest (brackets.Dash a) = a
lowest other = 1

abbrev pub before_nths : List NthNumber → Read (List NthNumber) → Read (List NthNumber)
before_nths xs (Ok later) = Ok (xs ++ later.0, later.1)
before_nths xs (Err place) = Err place

-- a number in brackets, and the state after it
abbrev pub bracket_number : BracketState → Token → Result BracketState ℕ
bracket_number b t = of_kind t.kind
  where
    of_kind : TokenKind → Result BracketState ℕ
    of_kind (token.Number value digits) =
        if (digits == 1) && nat_le (lowest b) value && nat_le value 5 then Ok (after_number b value) else Err t.from
    of_kind kind = Err t.from

abbrev pub then_brackets : (BracketState → Read (List NthNumber)) → Result BracketState ℕ → Read (List NthNumber)
then_brackets go (Ok b) = go b
then_brackets go (Err place) = Err place

-- the numbers in brackets, after the first of these
abbrev pub in_brackets : BracketState → List Token → Read (List NthNumber)
in_brackets b [] = Ok (read_so_far b, [])
in_brackets b (t ∷ ts) =
    if is class.Close (t ∷ ts) then Ok (read_so_far b, ts)
    else if is class.Comma (t ∷ ts) then before_nths (read_so_far b) (in_brackets brackets.Nothing ts)
    else if is class.Dash (t ∷ ts) then in_brackets (after_dash b) ts
    else then_brackets (λ c. in_brackets c ts) (bracket_number b t)

abbrev pub all_suit : DayOffset → List NthNumber → Bool
all_suit o [] = true
all_suit o (x ∷ xs) = suits o x.number x.is_back && all_suit o xs

abbrev pub numbered : ℕ → DayOffset → List NthNumber → List RulePart
numbered w o [] = []
numbered w o (x ∷ xs) = part.NthWeekday w x.number x.is_back o ∷ numbered w o xs

-- `Mo`, `Mo-Fr`
abbrev pub weekday_range : List Token → RulePart
weekday_range ts =
    if is class.Dash (drop 1 ts) then part.Weekdays (weekday ts) (weekday (drop 2 ts))
    else part.Weekdays (weekday ts) (weekday ts)

abbrev pub nth_weekdays : List Token → Result (List RulePart) ℕ
nth_weekdays ts = do
  xs ← in_brackets brackets.Nothing (drop 1 (drop 1 ts))
  o ← offset 27 xs.1
  if all_suit o.0 xs.0 then Ok (numbered (weekday ts) o.0 xs.0) else Err (place_of xs.1)

abbrev pub public_at : List Token → Result RulePart ℕ
public_at ts = do
  o ← offset 366 ts
  Ok (part.Holidays holiday.Public o.0)

-- one of these but a list in brackets
abbrev pub one_day : List Token → Result RulePart ℕ
one_day ts =
    if is class.PublicHoliday ts then public_at (drop 1 ts)
    else if is class.SchoolHoliday ts then Ok (part.Holidays holiday.School none)
    else Ok (weekday_range ts)

abbrev pub alone : Result RulePart ℕ → Result (List RulePart) ℕ
alone (Ok x) = Ok (x ∷ [])
alone (Err place) = Err place

abbrev pub day_item : List Token → Result (List RulePart) ℕ
day_item ts = if is class.Weekday ts && is class.Open (drop 1 ts) then nth_weekdays ts else alone (one_day ts)

-- ---- times: `08:00-17:00`, `17:00+`, `(sunrise+01:00)-12:00`, `10:00-16:00/30`, `12:00`

-- a clock time up to a minute
abbrev pub clock : ℕ → Token → TokenKind → Result ℕ ℕ
clock most t (token.Time hour minute) =
    if nat_lt minute 60 && nat_le (60 * hour + minute) most then Ok (60 * hour + minute) else Err t.from
clock most t kind = Err t.from

abbrev pub clock_at : ℕ → List Token → Read ℕ
clock_at most [] = Err 0
clock_at most (t ∷ ts) = do
  m ← clock most t t.kind
  Ok (m, ts)

abbrev pub event_of : Event → SunEvent
event_of sun.Sunrise = event.Sunrise
event_of sun.Sunset = event.Sunset
event_of sun.Dawn = event.Dawn
event_of sun.Dusk = event.Dusk

abbrev pub event_at : TokenKind → ℕ → Bool → TimeOfDay
event_at (token.Event e) minutes is_before = time.Event (event_of e) minutes is_before
event_at kind minutes is_before = time.Clock 0

-- an event and so many minutes, behind the parenthesis
abbrev pub shifted_at : List Token → Read TimeOfDay
shifted_at ts = do
  m ← clock_at 1439 (drop 1 (drop 1 ts))
  Ok (event_at (first_kind ts) m.0 (is class.Dash (drop 1 ts)), drop 1 m.1)

abbrev pub minute_at : ℕ → List Token → Read TimeOfDay
minute_at most ts = do
  m ← clock_at most ts
  Ok (time.Clock m.0, m.1)

abbrev pub moment_at : ℕ → List Token → Read TimeOfDay
moment_at most ts =
    if is class.Paren ts then shifted_at (drop 1 ts)
    else if is class.Event ts then Ok (event_at (first_kind ts) 0 false, drop 1 ts)
    else minute_at most ts

abbrev pub lasts_long : TimeOfDay → TimeOfDay → Bool
lasts_long (time.Clock a) (time.Clock b) = nat_lt (a + 1440) b
lasts_long a b = false

abbrev pub every : List Token → Read ℕ
every ts = if is class.Time ts then clock_at 1440 ts else number 4 1 1440 ts

abbrev pub every_tail : List Token → Result TimeTail ℕ
every_tail ts = do
  n ← every ts
  if n.0 == 0 then Err (place_of ts) else Ok (tail.Every n.0)

abbrev pub tail_at : List Token → Result TimeTail ℕ
tail_at ts =
    if is class.Plus ts then Ok tail.Open
    else if is class.Slash ts then every_tail (drop 1 ts)
    else Ok tail.Plain

abbrev pub range_tail : TimeOfDay → TimeOfDay → ℕ → List Token → Result RulePart ℕ
range_tail a b place ts =
    if lasts_long a b then Err place
    else (do
      x ← tail_at ts
      Ok (part.Time a (Some b) x))

abbrev pub time_range : TimeOfDay → List Token → Result RulePart ℕ
time_range a ts = do
  b ← moment_at 2880 ts
  range_tail a b.0 (place_of ts) b.1

abbrev pub open_or_point : List Token → TimeTail
open_or_point ts = if is class.Plus ts then tail.Open else tail.Plain

abbrev pub times : List Token → Result RulePart ℕ
times ts = do
  a ← moment_at 1439 ts
  if is class.Dash a.1 then time_range a.0 (drop 1 a.1) else Ok (part.Time a.0 None (open_or_point a.1))

-- ---- what is cut off

-- `24/7` has these numbers
abbrev pub always : List Token → Result (List RulePart) ℕ
always ts = do
  n ← number 1 7 7 (drop 1 (drop 1 ts))
  Ok []

-- The parts of tokens that are cut off, after the part before them.
abbrev pub parts_of : Cut → Option RulePart → List Token → Result (List RulePart) ℕ
parts_of cut.Years before ts = alone (years ts)
parts_of cut.MonthDays before ts = in_order (month_days before ts)
parts_of cut.Week before ts = alone (weeks ts)
parts_of cut.Day before ts = day_item ts
parts_of cut.Time before ts = alone (times ts)
parts_of cut.Always before ts = always ts
parts_of other before ts = Ok []
