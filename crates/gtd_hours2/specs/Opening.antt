-- When rules are open, in the terms of OpenStreetMap: the days that they match, and the spans of these days, with what is given of
-- holidays and times. Each second is open, said to be closed, or neither. Days are numbered from 1970-01-01, and seconds from its
-- beginning.
use Rattle.std.specs.Prelude.{◌≡◌, ◌⊎◌, ℕ, ◌+◌, ◌-◌, ◌*◌, ◌%◌, ◌<◌, ◌≤◌, ◌&&◌, nat_le, nat_lt, Bool, true, false}
use Rattle.std.specs.Prelude.{List, [], ◌∷◌, Option, Some, None, if◌then◌else◌, ℤ, pos, ◌+ℤ◌, ◌*ℤ◌, ◌≤ℤ◌, ◌<ℤ◌}
use Rattle.gtd_core.specs.Limits.{day_seconds}
use Rattle.gtd_core.specs.Seconds.{IsOnDay}
use Rattle.gtd_calendar.specs.declared.day.DayFields.{DayFields}
use Rattle.gtd_calendar.specs.Calendar.{AreFieldsOf, first_day}
use Rattle.gtd_hours2.specs.declared.values.HolidayKind.{HolidayKind}
use Rattle.gtd_hours2.specs.declared.values.PartKind.{PartKind}
use Rattle.gtd_hours2.specs.declared.values.PartKind.TheVariants as kind
use Rattle.gtd_hours2.specs.declared.values.RuleLink.{RuleLink}
use Rattle.gtd_hours2.specs.declared.values.RuleLink.TheVariants.{Instead, Also, Fallback}
use Rattle.gtd_hours2.specs.declared.values.RulePart.{RulePart}
use Rattle.gtd_hours2.specs.declared.values.RulePart.TheVariants as part
use Rattle.gtd_hours2.specs.declared.values.RuleWord.{RuleWord}
use Rattle.gtd_hours2.specs.declared.values.RuleWord.TheVariants as word
use Rattle.gtd_hours2.specs.declared.values.SunEvent.{SunEvent}
use Rattle.gtd_hours2.specs.declared.values.TimeOfDay.{TimeOfDay}
use Rattle.gtd_hours2.specs.declared.values.TimeOfDay.TheVariants as time
use Rattle.gtd_hours2.specs.declared.values.TimeTail.{TimeTail}
use Rattle.gtd_hours2.specs.declared.values.TimeTail.TheVariants as tail
use Rattle.gtd_hours2.specs.declared.values.YearlyDay.{YearlyDay}
use Rattle.gtd_hours2.specs.declared.values.YearlyDay.TheVariants as yearly
use Rattle.gtd_hours2.specs.Days.{AreInOrder, day_in, final_year, is_date, is_easter, moved}
use Rattle.gtd_hours2.specs.Rules.{Rule, has_kind, has_times, kind_of, says}

-- the clock time of each event, when open ends end, and how long a point of time is, in minutes
pub record Clocks : Type 0 where
  pub event : SunEvent → ℕ
  pub open_end : ℕ
  pub points : ℕ

-- What is given: the days that a table says are holidays, the years in which these and Easter are known, and times.
pub record Given : Type 1 where
  pub holiday : HolidayKind → ℤ → Type 0
  pub years : Option (ℕ × ℕ)
  pub clocks : Clocks

-- ---- days

abbrev pub IsKnown : Option (ℕ × ℕ) → ℤ → Type 0
IsKnown None n = ⊥
IsKnown (Some years) n = (first_day (pos years.0) ≤ℤ n) × (n <ℤ first_day (pos (years.1 + 1)))

-- a number from the first to the last or, if the last is before the first, from the first on or up to the last
abbrev pub IsRound : ℕ → ℕ → ℕ → Type 0
IsRound first last k = ((first ≤ k) × (k ≤ last)) ⊎ ((last < first) × ((first ≤ k) ⊎ (k ≤ last)))

-- one of every so many numbers, from the first to the last
abbrev pub IsStep : ℕ → ℕ → ℕ → ℕ → Type 0
IsStep first last step k = (first ≤ k) × (k ≤ last) × ((k - first) % step ≡ 0)

-- more years up to 2799 than are written out
abbrev pub are_many : ℕ → ℕ → Bool
are_many first step = nat_lt 1 step && nat_le (first + 128 * step) 2799

abbrev pub last_known : Option (ℕ × ℕ) → ℕ
last_known None = 0
last_known (Some years) = years.1

-- years without a last one go on to 2799 or, if they are many, to the last of the known years
abbrev pub last_year : Option (ℕ × ℕ) → ℕ → Option ℕ → ℕ → ℕ
last_year known first (Some last) step = last
last_year known first None step = if are_many first step then last_known known else 2799

-- months and days are compared as one number
abbrev pub date_key : YearlyDay → ℕ
date_key (yearly.Date month day) = 32 * month + day
date_key e = 0

-- day n is in the range of some year
abbrev pub IsInRange : YearlyDay → YearlyDay → ℤ → Type 0
IsInRange first last n = (over : Bool) × (y : ℤ) × AreInOrder over first last
    × (day_in first y ≤ℤ n) × (n ≤ℤ day_in last (final_year over y))

-- A range of days of each year holds on day n. Days of Easter are known in some years.
abbrev pub InDays : Option (ℕ × ℕ) → Bool → YearlyDay → YearlyDay → ℤ → DayFields → Type 0
InDays known true first last n f = IsRound (date_key first) (date_key last) (32 * f.month + f.day)
InDays known false first last n f = ((is_easter first ≡ true) ⊎ (is_easter last ≡ true) → IsKnown known n)
    × (((first ≡ last) × ((y : ℤ) × (n ≡ day_in first y))) ⊎ IsInRange first last n)

-- weeks that go back have no step
abbrev pub IsInWeeks : Bool → ℕ → ℕ → ℕ → ℕ → Type 0
IsInWeeks true first last step k = IsStep first last step k
IsInWeeks false first last step k = IsRound first last k

-- The selector holds on day n, which has the fields f. The year is that of the date; the week is that of ISO 8601.
abbrev pub HoldsOn : Given → RulePart → ℤ → DayFields → Type 0
HoldsOn g (part.Years first last step) n f = (y : ℕ) × IsStep first (last_year g.years first last step) step y × (f.year ≡ pos y)
HoldsOn g (part.Months first last) n f = IsRound first last f.month
HoldsOn g (part.Days first last) n f = InDays g.years (is_date first && is_date last) first last n f
HoldsOn g (part.Dated year first final last) n f = (day_in first (pos year) ≤ℤ n) × (n ≤ℤ day_in last (pos final))
HoldsOn g (part.Weeks first last step) n f = IsInWeeks (nat_le first last) first last step f.week
HoldsOn g (part.Holidays which offset) n f = (m : ℤ) × (n ≡ moved offset m) × IsKnown g.years m × g.holiday which m
HoldsOn g (part.Weekdays first last) n f = IsRound first last f.weekday
HoldsOn g (part.NthWeekday weekday number is_back offset) n f = (m : ℤ) × (h : DayFields) × AreFieldsOf m h
    × (n ≡ moved offset m) × (h.weekday ≡ weekday) × ((if is_back then h.nth_back else h.nth) ≡ number)
HoldsOn g (part.Time first last t) n f = ⊥

-- ---- rules

-- one of the selectors of a kind holds
abbrev pub SomeHolds : Given → Bool → PartKind → List RulePart → ℤ → DayFields → Type 0
SomeHolds g leads k [] n f = ⊥
SomeHolds g leads k (x ∷ xs) n f = ((kind_of leads x ≡ k) × HoldsOn g x n f) ⊎ SomeHolds g leads k xs n f

-- Day n matches: of each kind but times that the rule has, one part holds.
abbrev pub Matches : Given → Rule → ℤ → Type 0
Matches g rule n = (f : DayFields) × AreFieldsOf n f × ((k : PartKind) → (k ≡ kind.Times → ⊥)
    → has_kind rule.head.leads k rule.parts ≡ true → SomeHolds g rule.head.leads k rule.parts n f)

-- second s is from minute a of day n on, and before its minute b; a minute may lie on a later day
abbrev pub IsBetween : ℤ → ℕ → ℕ → ℤ → Type 0
IsBetween n a b s =
    ((pos day_seconds *ℤ n +ℤ pos (60 * a)) ≤ℤ s) × (s <ℤ (pos day_seconds *ℤ n +ℤ pos (60 * b)))

abbrev pub minute_of : Clocks → TimeOfDay → ℕ
minute_of c (time.Clock m) = m
minute_of c (time.Event event minutes is_before) = if is_before then c.event event - minutes else c.event event + minutes

-- an end that is not after the beginning is one of the next day
abbrev pub end_after : ℕ → ℕ → ℕ
end_after a b = if nat_lt a b then b else b + 1440

abbrev pub later : ℕ → ℕ → ℕ
later a b = if nat_lt a b then b else a

-- one of the points, so many minutes apart, up to a minute and before 24:00
abbrev pub InPoints : Clocks → ℕ → ℕ → ℕ → ℤ → ℤ → Type 0
InPoints c a b step n s =
    (p : ℕ) × (a ≤ p) × (p ≤ b) × (p < 1440) × ((p - a) % step ≡ 0) × IsBetween n p (p + c.points) s

abbrev pub InTime : Clocks → ℕ → Option TimeOfDay → TimeTail → ℤ → ℤ → Type 0
InTime c a None tail.Open n s = IsBetween n a (end_after a c.open_end) s
InTime c a None other n s = IsBetween n a (a + c.points) s
InTime c a (Some m) tail.Open n s = IsBetween n a (later (end_after a (minute_of c m)) (end_after a c.open_end)) s
InTime c a (Some m) (tail.Every step) n s = InPoints c a (end_after a (minute_of c m)) step n s
InTime c a (Some m) tail.Plain n s = IsBetween n a (end_after a (minute_of c m)) s

abbrev pub InPart : Clocks → RulePart → ℤ → ℤ → Type 0
InPart c (part.Time first last t) n s = InTime c (minute_of c first) last t n s
InPart c other n s = ⊥

abbrev pub SomeTime : Clocks → List RulePart → ℤ → ℤ → Type 0
SomeTime c [] n s = ⊥
SomeTime c (x ∷ xs) n s = InPart c x n s ⊎ SomeTime c xs n s

-- if a rule has no times, all of the day is meant
abbrev pub IsTimeOn : Clocks → Bool → List RulePart → ℤ → ℤ → Type 0
IsTimeOn c true parts n s = SomeTime c parts n s
IsTimeOn c false parts n s = IsBetween n 0 1440 s

-- the second is in the spans of a rule: those of some day that matches
abbrev pub InSpans : Given → Rule → ℤ → Type 0
InSpans g rule s = (n : ℤ) × Matches g rule n × IsTimeOn g.clocks (has_times rule) rule.parts n s

abbrev pub IsOnMatch : Given → Rule → ℤ → Type 0
IsOnMatch g rule s = (n : ℤ) × IsOnDay s n × Matches g rule n

-- Whether the second is open, and whether it is said to be closed, after a rule, given both before it.
abbrev pub IsOpenBy : Given → RuleWord → RuleLink → Rule → Type 0 → Type 0 → ℤ → Type 0
IsOpenBy g word.Open Instead rule WasOpen WasClosed s = (WasOpen × (IsOnMatch g rule s → ⊥)) ⊎ InSpans g rule s
IsOpenBy g word.Open Also rule WasOpen WasClosed s = WasOpen ⊎ InSpans g rule s
IsOpenBy g word.Open Fallback rule WasOpen WasClosed s = WasOpen ⊎ (InSpans g rule s × (WasClosed → ⊥))
IsOpenBy g word.Off Fallback rule WasOpen WasClosed s = WasOpen
IsOpenBy g word.Off link rule WasOpen WasClosed s = WasOpen × (InSpans g rule s → ⊥)
IsOpenBy g word.Unknown link rule WasOpen WasClosed s = WasOpen

abbrev pub IsClosedBy : Given → RuleWord → RuleLink → Rule → Type 0 → Type 0 → ℤ → Type 0
IsClosedBy g word.Open Instead rule WasOpen WasClosed s = WasClosed × (IsOnMatch g rule s → ⊥) × (InSpans g rule s → ⊥)
IsClosedBy g word.Open Also rule WasOpen WasClosed s = WasClosed × (InSpans g rule s → ⊥)
IsClosedBy g word.Open Fallback rule WasOpen WasClosed s = WasClosed
IsClosedBy g word.Off Fallback rule WasOpen WasClosed s = WasClosed ⊎ (InSpans g rule s × (WasOpen → ⊥))
IsClosedBy g word.Off link rule WasOpen WasClosed s = WasClosed ⊎ InSpans g rule s
IsClosedBy g word.Unknown link rule WasOpen WasClosed s = WasClosed

-- the second is open, and said to be closed, after the rules one after another
abbrev pub IsOpenAfter : Given → List Rule → Type 0 → Type 0 → ℤ → Type 0
IsOpenAfter g [] WasOpen WasClosed s = WasOpen
IsOpenAfter g (rule ∷ rules) WasOpen WasClosed s =
    IsOpenAfter g rules (IsOpenBy g (says rule) rule.head.link rule WasOpen WasClosed s)
    (IsClosedBy g (says rule) rule.head.link rule WasOpen WasClosed s) s

abbrev pub IsClosedAfter : Given → List Rule → Type 0 → Type 0 → ℤ → Type 0
IsClosedAfter g [] WasOpen WasClosed s = WasClosed
IsClosedAfter g (rule ∷ rules) WasOpen WasClosed s =
    IsClosedAfter g rules (IsOpenBy g (says rule) rule.head.link rule WasOpen WasClosed s)
    (IsClosedBy g (says rule) rule.head.link rule WasOpen WasClosed s) s

-- the rules are open at the second, and say that it is closed: nothing is said of it before the first rule
abbrev pub IsOpen : Given → List Rule → ℤ → Type 0
IsOpen g rules s = IsOpenAfter g rules ⊥ ⊥ s

abbrev pub IsClosed : Given → List Rule → ℤ → Type 0
IsClosed g rules s = IsClosedAfter g rules ⊥ ⊥ s
