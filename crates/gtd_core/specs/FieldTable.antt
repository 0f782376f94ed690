-- The fields of a start and of a duration, each once, in the order of canonical texts: its letter, the numbers that it may
-- have, what it gives, its level, and what a canonical text shows of it. Letters and levels are those of GDF time domains
-- (ISO 14825:2004), and the ranges this project's own; weeks are those of ISO 8601, and weekdays run from 1, Sunday, to 7,
-- Saturday.
use Rattle.std.specs.Prelude.{ℕ, ◌+◌, ◌-◌, ◌*◌, ◌/◌, ◌%◌, ◌^◌, Bool, true, ◌&&◌, ◌==◌, nat_le, List, [], ◌∷◌, Option, Some}
use Rattle.std.specs.Prelude.{None, bit_or, decimal, if◌then◌else◌, is_some, not}
use Rattle.std.specs.List.{flat_map}
use Rattle.gtd_core.specs.declared.start.StartParts.{StartParts}
use Rattle.gtd_core.specs.declared.duration.DurationParts.{DurationParts}

-- A field: its letter, by its number in ASCII; whether it may have this number, written in this many digits; and the parts
-- with that number.
pub record FieldRow (Parts : Type 0) : Type 0 where
  pub letter : ℕ
  pub takes : ℕ → ℕ → Bool
  pub gives : Parts → ℕ → Parts

abbrev pub field : {Parts : Type 0} → ℕ → (ℕ → ℕ → Bool) → (Parts → ℕ → Parts) → FieldRow Parts
field letter takes gives = record { letter = letter; takes = takes; gives = gives }

-- The number is from one to another, both included.
abbrev pub is_from_to : ℕ → ℕ → ℕ → Bool
is_from_to low high n = nat_le low n && nat_le n high

-- Two digits: a number n, up to 5 since no weekday comes more often in a month, and a weekday.
abbrev pub is_place_value : ℕ → ℕ → Bool
is_place_value value digits = digits == 2 && is_from_to 1 5 (value / 10) && is_from_to 1 7 (value % 10)

-- y 121 year, in four digits; M 77 month; w 119 week; f 102 and l 108 n-th weekday of the month, from its beginning and back
-- from its end; d 100 day of the month; t 116 weekday, of which k sets bit k - 1; h 104 hour; m 109 minute; s 115 second.
-- Leading zeros are free except for y, f and l.
abbrev pub start_fields : List (FieldRow StartParts)
start_fields =
    field 121 (λ value digits. digits == 4 && nat_le value 9999) (λ parts n. record parts { year = Some n })
    ∷ field 77 (λ value digits. is_from_to 1 12 value) (λ parts n. record parts { month = Some n })
    ∷ field 119 (λ value digits. is_from_to 1 53 value) (λ parts n. record parts { week = Some n })
    ∷ field 102 is_place_value (λ parts n. record parts { nth = Some (n / 10, n % 10) })
    ∷ field 108 is_place_value (λ parts n. record parts { nth_back = Some (n / 10, n % 10) })
    ∷ field 100 (λ value digits. is_from_to 1 31 value) (λ parts n. record parts { day = Some n })
    ∷ field 116 (λ value digits. is_from_to 1 7 value)
    (λ parts n. record parts { weekdays = bit_or parts.weekdays (2 ^ (n - 1)) })
    ∷ field 104 (λ value digits. nat_le value 23) (λ parts n. record parts { hour = Some n })
    ∷ field 109 (λ value digits. nat_le value 59) (λ parts n. record parts { minute = Some n })
    ∷ field 115 (λ value digits. nat_le value 59) (λ parts n. record parts { second = Some n }) ∷ []

-- The numbers of a duration, none of which has a range of its own.
abbrev pub duration_fields : List (FieldRow DurationParts)
duration_fields =
    field 121 (λ value digits. true) (λ parts n. record parts { years = n })
    ∷ field 77 (λ value digits. true) (λ parts n. record parts { months = n })
    ∷ field 119 (λ value digits. true) (λ parts n. record parts { weeks = n })
    ∷ field 100 (λ value digits. true) (λ parts n. record parts { days = n })
    ∷ field 104 (λ value digits. true) (λ parts n. record parts { hours = n })
    ∷ field 109 (λ value digits. true) (λ parts n. record parts { minutes = n })
    ∷ field 115 (λ value digits. true) (λ parts n. record parts { seconds = n }) ∷ []

-- What the table says of a letter, or the other value if no field has it.
abbrev pub at_letter : {Parts A : Type 0} → List (FieldRow Parts) → (FieldRow Parts → A) → A → ℕ → A
at_letter [] value other letter = other
at_letter (row ∷ rows) value other letter = if letter == row.letter then value row else at_letter rows value other letter

-- No field of a start is given.
abbrev pub no_parts : StartParts
no_parts = record {
  year = None;
  month = None;
  week = None;
  nth = None;
  nth_back = None;
  day = None;
  weekdays = 0;
  hour = None;
  minute = None;
  second = None;
}

-- The bound: a number of seconds that no stretch exceeds, since a year has at most 366 days, a month at most 31, and a day
-- 86,400 seconds.
abbrev pub bound_of : DurationParts → ℕ
bound_of parts = 86_400 * (366 * parts.years + 31 * parts.months + 7 * parts.weeks + parts.days)
    + (3600 * parts.hours + 60 * parts.minutes + parts.seconds)

-- ---- the levels of a start

-- One column more of `start_fields`, row by row: the field's level, and whether a start gives it. The levels are numbered from
-- the coarsest on: 0 the year, 1 the month and the week, 2 the day, 3 the hour, 4 the minute, 5 the second.
abbrev pub start_levels : List (ℕ × (StartParts → Bool))
start_levels =
    (0, λ parts. is_some parts.year) ∷ (1, λ parts. is_some parts.month) ∷ (1, λ parts. is_some parts.week)
    ∷ (2, λ parts. is_some parts.nth) ∷ (2, λ parts. is_some parts.nth_back) ∷ (2, λ parts. is_some parts.day)
    ∷ (2, λ parts. not (parts.weekdays == 0))
    ∷ (3, λ parts. is_some parts.hour) ∷ (4, λ parts. is_some parts.minute) ∷ (5, λ parts. is_some parts.second)
    ∷ []

-- The level of the last of these fields that is given, or else this level.
abbrev pub last_level : ℕ → List (ℕ × (StartParts → Bool)) → StartParts → ℕ
last_level level [] parts = level
last_level level (row ∷ rows) parts = last_level (if row.1 parts then row.0 else level) rows parts

-- The finest level at which a start gives a field: that of its last one, since no field is coarser than one before it.
abbrev pub finest_level : StartParts → ℕ
finest_level = last_level 0 start_levels

-- ---- what a canonical text shows of a field: the digits of each of its numbers

-- A number has no leading zeros.
abbrev pub number_digits : Option ℕ → List (List ℕ)
number_digits None = []
number_digits (Some n) = decimal n ∷ []

-- A year has four digits.
abbrev pub year_digits : Option ℕ → List (List ℕ)
year_digits None = []
year_digits (Some year) = ((48 + year / 1000) ∷ (48 + year / 100 % 10) ∷ (48 + year / 10 % 10) ∷ (48 + year % 10) ∷ []) ∷ []

-- A place is two digits: the number, and the weekday.
abbrev pub place_digits : Option (ℕ × ℕ) → List (List ℕ)
place_digits None = []
place_digits (Some place) = ((48 + place.0) ∷ (48 + place.1) ∷ []) ∷ []

-- Weekday k is shown where bit k - 1 is set.
abbrev pub weekday_digits : ℕ → ℕ → List (List ℕ)
weekday_digits weekdays k = if weekdays / 2 ^ (k - 1) % 2 == 1 then ((48 + k) ∷ []) ∷ [] else []

-- The weekdays come in ascending order, each once.
abbrev pub weekdays_digits : ℕ → List (List ℕ)
weekdays_digits weekdays = flat_map (weekday_digits weekdays) (1 ∷ 2 ∷ 3 ∷ 4 ∷ 5 ∷ 6 ∷ 7 ∷ [])

-- A number of a duration is left out if it is 0.
abbrev pub nonzero_digits : ℕ → List (List ℕ)
nonzero_digits n = if n == 0 then [] else decimal n ∷ []

-- One column more of `start_fields`, row by row.
abbrev pub start_digits : List (StartParts → List (List ℕ))
start_digits =
    (λ parts. year_digits parts.year) ∷ (λ parts. number_digits parts.month) ∷ (λ parts. number_digits parts.week)
    ∷ (λ parts. place_digits parts.nth) ∷ (λ parts. place_digits parts.nth_back) ∷ (λ parts. number_digits parts.day)
    ∷ (λ parts. weekdays_digits parts.weekdays)
    ∷ (λ parts. number_digits parts.hour) ∷ (λ parts. number_digits parts.minute) ∷ (λ parts. number_digits parts.second)
    ∷ []

-- One column more of `duration_fields`.
abbrev pub duration_digits : List (DurationParts → List (List ℕ))
duration_digits =
    (λ parts. nonzero_digits parts.years) ∷ (λ parts. nonzero_digits parts.months) ∷ (λ parts. nonzero_digits parts.weeks)
    ∷ (λ parts. nonzero_digits parts.days)
    ∷ (λ parts. nonzero_digits parts.hours) ∷ (λ parts. nonzero_digits parts.minutes) ∷ (λ parts. nonzero_digits parts.seconds)
    ∷ []
