-- The conditions of the rules: of a basic domain wherever it stands, of one that is a whole domain, and of two parts that an
-- operator joins.
use Rattle.std.specs.Prelude.{◌≡◌, ◌≢◌, ◌⊎◌, ◌<◌, ◌≤◌, ◌+◌, ◌%◌, ◌==◌, ◌&&◌, ◌||◌, not, ℕ, Bool, IsTrue, [], ◌∷◌}
use Rattle.std.specs.Prelude.{Option, Some, None, IfSome, if◌then◌else◌}
use Rattle.std.specs.List.{Contains}
use Rattle.std.specs.Option.{IsSomeAnd}
use Rattle.gtd_core.specs.declared.start.StartParts.{StartParts}
use Rattle.gtd_core.specs.declared.duration.DurationParts.{DurationParts}
use Rattle.gtd_core.specs.declared.domain.Op.{Op}
use Rattle.gtd_core.specs.declared.domain.Op.TheVariants.{Union, Meet}
use Rattle.gtd_core.specs.Ranges.{clock_seconds}
use Rattle.gtd_core.specs.Trees.{Tree, Single, Joined}
use Rattle.gtd_mistakes.specs.Shapes.{EndsAfterMidnight, EndsWithinDay, HasNoClock, HasNoDay, HasNoOtherDay, HasOneTime}
use Rattle.gtd_mistakes.specs.Shapes.{IsDaily, IsMonthAlone, Lasts, LastsClock, begin_of, days_of, months_of}
use Rattle.gtd_mistakes.specs.declared.rule.Rule.{Rule}
use Rattle.gtd_mistakes.specs.declared.rule.Rule.TheVariants as rule

-- (M5){d1}: a month alone, for one day
abbrev pub IsFirstOfMonth : StartParts → DurationParts → Type 0
IsFirstOfMonth start duration = IsMonthAlone start × Lasts 0 1 0 duration

-- (M5h10){h2}: a month and a time, no week and no day; each stretch ends within its day
abbrev pub IsEachDayOfMonth : StartParts → DurationParts → Type 0
IsEachDayOfMonth start duration =
    (start.month ≢ None) × (start.week ≡ None) × HasNoDay start × (HasNoClock start → ⊥) × EndsWithinDay start duration

-- (y2025h7){h2}: the same of a year, without a month
abbrev pub IsEachDayOfYear : StartParts → DurationParts → Type 0
IsEachDayOfYear start duration =
    (start.year ≢ None) × (start.month ≡ None) × (start.week ≡ None) × HasNoDay start × (HasNoClock start → ⊥)
    × EndsWithinDay start duration

-- (m30){m15}: a minute without an hour
abbrev pub IsEachHour : StartParts → Type 0
IsEachHour start = (start.minute ≢ None) × (start.hour ≡ None)

-- (t1){d5}: the day is given by weekdays alone, and they are Sunday, without a time, for five days; or they are Sunday to
-- Thursday, and each stretch ends within its day. Bit k - 1 stands for weekday k.
abbrev pub IsSundayToThursday : StartParts → DurationParts → Type 0
IsSundayToThursday start duration =
    HasNoOtherDay start
    × (((start.weekdays ≡ 1) × HasNoClock start × Lasts 0 5 0 duration)
    ⊎ ((start.weekdays ≡ 31) × EndsWithinDay start duration))

-- (t2t6){d1}: Monday and Friday, and each stretch ends within its day
abbrev pub IsMondayAndFriday : StartParts → DurationParts → Type 0
IsMondayAndFriday start duration = HasNoOtherDay start × (start.weekdays ≡ 34) × EndsWithinDay start duration

-- (t1){d2}: Sunday, without a time, for two days
abbrev pub IsSundayAndMonday : StartParts → DurationParts → Type 0
IsSundayAndMonday start duration =
    HasNoOtherDay start × (start.weekdays ≡ 1) × HasNoClock start × Lasts 0 2 0 duration

-- (M4d1){m6}: a year or a month, without a time, for minutes alone
abbrev pub IsMinutes : StartParts → DurationParts → Type 0
IsMinutes start duration =
    ((start.year ≢ None) ⊎ (start.month ≢ None)) × HasNoClock start × LastsClock duration
    × (duration.hours ≡ 0) × (0 < duration.minutes) × (duration.seconds ≡ 0)

-- (h7){h9}: one time after midnight on each day, and hours, minutes and seconds that name a later time of the day, of at most
-- three hours more; and each stretch ends within its day
abbrev pub IsEndAsDuration : StartParts → DurationParts → Type 0
IsEndAsDuration start duration =
    IsDaily start × HasOneTime start × LastsClock duration × (0 < begin_of start)
    × (begin_of start < clock_seconds duration) × (clock_seconds duration ≤ begin_of start + 10_800)
    × (begin_of start + clock_seconds duration ≤ 86_400)

-- (h16){h18}: an hour, at one time of the day, and hours, minutes and seconds that name a later time of the day; and each
-- stretch ends after midnight
abbrev pub IsEndPastMidnight : StartParts → DurationParts → Type 0
IsEndPastMidnight start duration =
    (start.hour ≢ None) × HasOneTime start × LastsClock duration × (begin_of start < clock_seconds duration)
    × (clock_seconds duration < 86_400) × (86_400 < begin_of start + clock_seconds duration)

-- one of the seven weekdays, as bits
abbrev pub IsOneWeekday : ℕ → Type 0
IsOneWeekday weekdays = Contains (1 ∷ 2 ∷ 4 ∷ 8 ∷ 16 ∷ 32 ∷ 64 ∷ []) weekdays

-- (d1t2){d1}: a weekday that is also one of the first five days of a month
abbrev pub IsWeekdayOnDate : StartParts → Type 0
IsWeekdayOnDate start = IsSomeAnd start.day (λ day. day ≤ 5) × IsOneWeekday start.weekdays

-- a leap year of the Gregorian calendar
abbrev pub is_leap : ℕ → Bool
is_leap year = (year % 4 == 0 && not (year % 100 == 0)) || year % 400 == 0

-- as many days as no year like this one has
abbrev pub wrong_length : ℕ → ℕ
wrong_length year = if is_leap year then 365 else 366

-- not given, or the first
abbrev pub IsFirst : Option ℕ → Type 0
IsFirst field = IfSome field (λ n. n ≡ 1)

-- (y2024){d365}: a year, without a day or with its first one, for as many days as it does not have
abbrev pub IsDaysOfYear : StartParts → DurationParts → Type 0
IsDaysOfYear start duration =
    IsSomeAnd start.year (λ year. Lasts 0 (wrong_length year) 0 duration) × IsFirst start.month × IsFirst start.day
    × (start.week ≡ None) × (start.nth ≡ None) × (start.nth_back ≡ None) × (start.weekdays ≡ 0) × HasNoClock start

-- (d31){d1}: the 31st, without a month or a week
abbrev pub IsThirtyFirst : StartParts → Type 0
IsThirtyFirst start = (start.day ≡ Some 31) × (start.month ≡ None) × (start.week ≡ None)

-- the most days of a month in any year
abbrev pub most_days : ℕ → ℕ
most_days month =
    if month == 2 then 29 else if month == 4 || month == 6 || month == 9 || month == 11 then 30 else 31

-- (M2d30){d1}: a day that the month never has
abbrev pub IsNoSuchDay : StartParts → Type 0
IsNoSuchDay start = IsSomeAnd start.month (λ month. IsSomeAnd start.day (λ day. most_days month < day))

-- weekdays, without a time, for whole days
abbrev pub AreDays : StartParts → DurationParts → Type 0
AreDays start duration =
    HasNoOtherDay start × (start.weekdays ≢ 0) × HasNoClock start × (months_of duration ≡ 0) × (0 < days_of duration)
    × (clock_seconds duration ≡ 0)

-- a month alone, for whole months
abbrev pub IsSeason : StartParts → DurationParts → Type 0
IsSeason start duration =
    IsMonthAlone start × (0 < months_of duration) × (days_of duration ≡ 0) × (clock_seconds duration ≡ 0)

-- a time of each day, for at most 24 hours, until after midnight
abbrev pub IsNight : StartParts → DurationParts → Type 0
IsNight start duration = IsDaily start × EndsAfterMidnight start duration

-- of two basic domains, one is of the first kind and the other of the second
abbrev pub AreOneAndOther : (One Other : StartParts → DurationParts → Type 0) → Tree → Tree → Type 0
AreOneAndOther One Other (Single s d) (Single t e) = (One s d × Other t e) ⊎ (Other s d × One t e)
AreOneAndOther One Other left right = ⊥

-- basic domains of a time of each day, joined by `+`
abbrev pub AreDaily : Tree → Type 0
AreDaily (Single start duration) = IsDaily start
AreDaily (Joined Union left right) = AreDaily left × AreDaily right
AreDaily (Joined op left right) = ⊥

-- a time of each day `*` a basic domain without a time
abbrev pub IsProductOfDaily : Tree → Type 0
IsProductOfDaily (Joined Meet left right) =
    AreOneAndOther (λ start duration. IsDaily start) (λ start duration. HasNoClock start) left right
IsProductOfDaily tree = ⊥

-- (t6){d1}*(h22){h8}: days of the week `*` nights
abbrev pub DoDaysCutNights : Op → Tree → Tree → Type 0
DoDaysCutNights op left right = (op ≡ Meet) × AreOneAndOther AreDays IsNight left right

-- [(M7){M2}]*[(h23){h6}]: whole months `*` nights
abbrev pub DoesSeasonCutNights : Op → Tree → Tree → Type 0
DoesSeasonCutNights op left right = (op ≡ Meet) × AreOneAndOther IsSeason IsNight left right

-- (h7){h2}+(h16){h3}*(t2){d5}: times of each day `+` a product of such a time with days or a season; or the other way round
abbrev pub IsProductFirst : Op → Tree → Tree → Type 0
IsProductFirst op left right =
    (op ≡ Union) × ((AreDaily left × IsProductOfDaily right) ⊎ (IsProductOfDaily left × AreDaily right))

-- The rule holds of a basic domain, which is a whole domain or only a part of one.
abbrev pub HoldsOfBasic : Rule → Bool → StartParts → DurationParts → Type 0
HoldsOfBasic rule.FirstOfMonth whole start duration = IsFirstOfMonth start duration
HoldsOfBasic rule.EachDayOfMonth whole start duration = IsEachDayOfMonth start duration
HoldsOfBasic rule.EachDayOfYear whole start duration = IsEachDayOfYear start duration
HoldsOfBasic rule.EachHour whole start duration = IsTrue whole × IsEachHour start
HoldsOfBasic rule.SundayToThursday whole start duration = IsSundayToThursday start duration
HoldsOfBasic rule.MondayAndFriday whole start duration = IsMondayAndFriday start duration
HoldsOfBasic rule.SundayAndMonday whole start duration = IsSundayAndMonday start duration
HoldsOfBasic rule.Minutes whole start duration = IsMinutes start duration
HoldsOfBasic rule.EndAsDuration whole start duration = IsTrue whole × IsEndAsDuration start duration
HoldsOfBasic rule.EndPastMidnight whole start duration = IsEndPastMidnight start duration
HoldsOfBasic rule.DaysCutNights whole start duration = ⊥
HoldsOfBasic rule.SeasonCutsNights whole start duration = ⊥
HoldsOfBasic rule.WeekdayOnDate whole start duration = IsWeekdayOnDate start
HoldsOfBasic rule.ProductFirst whole start duration = ⊥
HoldsOfBasic rule.DaysOfYear whole start duration = IsDaysOfYear start duration
HoldsOfBasic rule.ThirtyFirst whole start duration = IsTrue whole × IsThirtyFirst start
HoldsOfBasic rule.NoSuchDay whole start duration = IsNoSuchDay start
HoldsOfBasic rule.NeverHolds whole start duration = ⊥
HoldsOfBasic rule.AlwaysHolds whole start duration = ⊥
HoldsOfBasic rule.Past whole start duration = ⊥
HoldsOfBasic rule.EndsSoon whole start duration = ⊥
HoldsOfBasic rule.LoneCode whole start duration = ⊥

-- The rule holds of two parts and what joins them.
abbrev pub HoldsOfJoin : Rule → Op → Tree → Tree → Type 0
HoldsOfJoin rule.DaysCutNights op left right = DoDaysCutNights op left right
HoldsOfJoin rule.SeasonCutsNights op left right = DoesSeasonCutNights op left right
HoldsOfJoin rule.ProductFirst op left right = IsProductFirst op left right
HoldsOfJoin rule op left right = ⊥

-- The rule holds of a part of a domain, which is the whole or not.
abbrev pub HoldsOf : Rule → Bool → Tree → Type 0
HoldsOf rule whole (Single start duration) = HoldsOfBasic rule whole start duration
HoldsOf rule whole (Joined op left right) = HoldsOfJoin rule op left right
