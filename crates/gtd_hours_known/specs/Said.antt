-- What the rules of a text say of each second over all time: that it is open, that it is closed, or nothing. In the terms of the
-- page Key:opening_hours/specification of OpenStreetMap.
use Rattle.std.specs.Prelude.{◌≡◌, ◌⊎◌, Bool, true, false, ◌||◌, not, List, [], ◌∷◌, is_some, ℤ}
use Rattle.gtd_core.specs.Seconds.{IsOnDay}
use Rattle.gtd_calendar.specs.Calendar.{AreFieldsOf}
use Rattle.gtd_calendar.specs.declared.day.DayFields.{DayFields}
use Rattle.gtd_hours.specs.Opening.{IsTimeOn, Matches, SomeHolds}
use Rattle.gtd_hours.specs.Writable.{selectors}
use Rattle.gtd_hours.specs.declared.hours.Hours.{Hours}
use Rattle.gtd_hours.specs.declared.hours.Kind.{Kind}
use Rattle.gtd_hours.specs.declared.hours.Link.{Link}
use Rattle.gtd_hours.specs.declared.hours.Link.TheVariants.{Also, Fallback, Instead}
use Rattle.gtd_hours.specs.declared.hours.Modifier.{Modifier}
use Rattle.gtd_hours.specs.declared.hours.Modifier.TheVariants.{Closed, Open}
use Rattle.gtd_hours.specs.declared.hours.Rule.{Rule}
use Rattle.gtd_hours_days.specs.Listed.{SomeListed}
use Rattle.gtd_hours_days.specs.declared.listed.Listed.{Listed}
use Rattle.gtd_hours_holidays.specs.declared.holidays.Holidays.{Holidays}
use Rattle.gtd_hours_holidays.specs.declared.known_years.KnownYears.{KnownYears}
use Rattle.gtd_hours_holiday_rules.specs.declared.rules.HolidayRule.{HolidayRule}
use Rattle.gtd_hours_known.specs.Easter.{IsOwnHours}
use Rattle.gtd_hours_known.specs.Joining.{has_weekdays}
use Rattle.gtd_hours_known.specs.Rules.{IsGiven}
use Rattle.gtd_hours_known.specs.declared.known.Known.{Known}

-- ---- the days of a rule

-- the day is one of these holidays, by the table in the years
abbrev pub IsHoliday : Known → List Listed → ℤ → Type 0
IsHoliday known listed n =
    (table : Holidays) × (years : KnownYears) × IsGiven known table years × SomeListed table.rows.items years listed n

-- of each kind of selectors one holds, but in place of one of the last kind the day may be another one
abbrev pub EachHoldsOr : Type 0 → List Kind → ℤ → DayFields → Type 0
EachHoldsOr Other [] n f = Other
EachHoldsOr Other (kind ∷ []) n f = SomeHolds kind.selectors.items n f ⊎ Other
EachHoldsOr Other (kind ∷ more ∷ kinds) n f =
    SomeHolds kind.selectors.items n f × EachHoldsOr Other (more ∷ kinds) n f

-- Holidays restrict a rule, or are days beside its weekdays, which are its last kind.
abbrev pub MatchesBy : Bool → Type 0 → List Kind → ℤ → Type 0
MatchesBy true Holiday kinds n = Matches kinds n × Holiday
MatchesBy false Holiday kinds n = (f : DayFields) × AreFieldsOf n f × EachHoldsOr Holiday kinds n f

-- They restrict it if they stand before its weekdays, or if it has no weekdays.
abbrev pub restricts : Bool → List Kind → Bool
restricts led kinds = led || not (has_weekdays (selectors kinds))

abbrev pub MatchesWith : Known → Bool → List Listed → List Kind → ℤ → Type 0
MatchesWith known led [] kinds n = Matches kinds n
MatchesWith known led (h ∷ listed) kinds n = MatchesBy (restricts led kinds) (IsHoliday known (h ∷ listed) n) kinds n

-- the day matches a rule of a text, of which this is left without its holidays
abbrev pub MatchesRule : Known → HolidayRule → Rule → ℤ → Type 0
MatchesRule known from rule n = MatchesWith known from.is_led from.holidays.items rule.kinds.items n

-- the second is in the spans of the rule: those of some day that matches
abbrev pub InSpansOf : Known → HolidayRule → Rule → ℤ → Type 0
InSpansOf known from rule s = (n : ℤ) × MatchesRule known from rule n × IsTimeOn rule.times.items n s

-- the second is on a day that matches
abbrev pub IsOnDayOf : Known → HolidayRule → Rule → ℤ → Type 0
IsOnDayOf known from rule s = (n : ℤ) × IsOnDay s n × MatchesRule known from rule n

-- ---- what a rule says

-- Whether a second is open after a rule: given whether the rule is unknown; its spans and its days; and whether the second was
-- open, or said to be closed, before it. A fallback rule speaks of what nothing is said of.
abbrev pub IsOpenThen : Bool → Modifier → Link → Type 0 → Type 0 → Type 0 → Type 0 → Type 0
IsOpenThen true modifier link Spans Days WasOpen WasClosed = WasOpen
IsOpenThen false Open Instead Spans Days WasOpen WasClosed = (WasOpen × (Days → ⊥)) ⊎ Spans
IsOpenThen false Open Also Spans Days WasOpen WasClosed = WasOpen ⊎ Spans
IsOpenThen false Open Fallback Spans Days WasOpen WasClosed = WasOpen ⊎ (Spans × (WasClosed → ⊥))
IsOpenThen false Closed Instead Spans Days WasOpen WasClosed = WasOpen × (Spans → ⊥)
IsOpenThen false Closed Also Spans Days WasOpen WasClosed = WasOpen × (Spans → ⊥)
IsOpenThen false Closed Fallback Spans Days WasOpen WasClosed = WasOpen

-- and whether it is said to be closed
abbrev pub IsClosedThen : Bool → Modifier → Link → Type 0 → Type 0 → Type 0 → Type 0 → Type 0
IsClosedThen true modifier link Spans Days WasOpen WasClosed = WasClosed
IsClosedThen false Open Instead Spans Days WasOpen WasClosed = WasClosed × (Days → ⊥) × (Spans → ⊥)
IsClosedThen false Open Also Spans Days WasOpen WasClosed = WasClosed × (Spans → ⊥)
IsClosedThen false Open Fallback Spans Days WasOpen WasClosed = WasClosed
IsClosedThen false Closed Instead Spans Days WasOpen WasClosed = WasClosed ⊎ Spans
IsClosedThen false Closed Also Spans Days WasOpen WasClosed = WasClosed ⊎ Spans
IsClosedThen false Closed Fallback Spans Days WasOpen WasClosed = WasClosed ⊎ (Spans × (WasOpen → ⊥))

abbrev pub OpenAfter : Known → HolidayRule → Rule → Type 0 → Type 0 → ℤ → Type 0
OpenAfter known from rule WasOpen WasClosed s =
    IsOpenThen (is_some from.unknown) rule.modifier from.link (InSpansOf known from rule s) (IsOnDayOf known from rule s)
    WasOpen WasClosed

abbrev pub ClosedAfter : Known → HolidayRule → Rule → Type 0 → Type 0 → ℤ → Type 0
ClosedAfter known from rule WasOpen WasClosed s =
    IsClosedThen (is_some from.unknown) rule.modifier from.link (InSpansOf known from rule s) (IsOnDayOf known from rule s)
    WasOpen WasClosed

-- ---- what all rules say

-- The own text of a rule and its other month days stand for this one.
abbrev pub IsOwnRule : Known → HolidayRule → Rule → Type 0
IsOwnRule known from rule = (hours : Hours) × IsOwnHours known from hours × (hours.rules.items ≡ rule ∷ [])

-- and so for each rule
abbrev pub AreOwnRules : Known → List HolidayRule → List Rule → Type 0
AreOwnRules known [] [] = Unit {0}
AreOwnRules known (from ∷ rules) (rule ∷ own) = IsOwnRule known from rule × AreOwnRules known rules own
AreOwnRules known rules own = ⊥

-- the second is open after the rules one after another
abbrev pub IsOpenFrom : Known → List HolidayRule → List Rule → Type 0 → Type 0 → ℤ → Type 0
IsOpenFrom known (from ∷ rules) (rule ∷ own) WasOpen WasClosed s =
    IsOpenFrom known rules own (OpenAfter known from rule WasOpen WasClosed s)
    (ClosedAfter known from rule WasOpen WasClosed s) s
IsOpenFrom known rules own WasOpen WasClosed s = WasOpen

-- The rules of a text, with these own rules, say that the second is open. Nothing is said before the first rule.
abbrev pub IsSaidOpen : Known → List HolidayRule → List Rule → ℤ → Type 0
IsSaidOpen known rules own s = IsOpenFrom known rules own ⊥ ⊥ s
