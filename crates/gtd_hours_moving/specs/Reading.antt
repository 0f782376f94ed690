-- A range of days that moves is read from left to right: its numbers, or its first fault.
use Rattle.std.specs.Prelude.{ℕ, ◌+◌, ◌*◌, ◌==◌, ◌&&◌, ◌||◌, not, nat_le, Bool, true, false, if◌then◌else◌, pos}
use Rattle.std.specs.Prelude.{List, [], ◌∷◌, length, Option, Some, None, Result, Ok, Err}
use Rattle.gtd_calendar.specs.Calendar.{month_length}
use Rattle.gtd_hours_tokens.specs.declared.token.Token.{Token}
use Rattle.gtd_hours_tokens.specs.declared.token.TokenKind.{TokenKind}
use Rattle.gtd_hours_tokens.specs.declared.token.TokenKind.TheVariants as kind
use Rattle.gtd_hours_grammar.specs.declared.fault.FaultKind.{FaultKind}
use Rattle.gtd_hours_grammar.specs.declared.fault.FaultKind.TheVariants as fault
use Rattle.gtd_hours_grammar.specs.declared.fault.HoursFault.{HoursFault}
use Rattle.gtd_hours_moving.specs.declared.read.ReadEnd.{ReadEnd}
use Rattle.gtd_hours_moving.specs.declared.read.ReadRange.{ReadRange}
use Rattle.gtd_hours_ranges.specs.declared.written.WrittenEnd.{WrittenEnd}
use Rattle.gtd_hours_ranges.specs.declared.written.WrittenEnd.TheVariants.{Day, Easter, Place}
use Rattle.gtd_hours_ranges.specs.declared.written.WrittenPlace.{WrittenPlace}
use Rattle.gtd_hours_moving.specs.Begins.{at_number, begins_offset, behind_brackets, behind_end}
use Rattle.gtd_hours_moving.specs.Kinds.{begins, is_bracket, is_closing, is_dash, is_day, is_plus, is_sign, is_weekday, later}
use Rattle.gtd_hours_moving.specs.Words.{begins_easter}

-- one step after another, up to the first fault
infixl 10 ◌>>=◌
abbrev pub ◌>>=◌ : {A B : Type 0} → Result A HoursFault → (A → Result B HoursFault) → Result B HoursFault
(Ok x) >>= f = f x
(Err bad) >>= f = Err bad

-- ---- faults

abbrev pub fault_at : FaultKind → ℕ → HoursFault
fault_at what place = record { kind = what; place = place }

-- what is wrong with a token that cannot stand where it does
abbrev pub misfit_kind : TokenKind → FaultKind
misfit_kind kind.Unsupported = fault.Unsupported
misfit_kind k = fault.Unexpected

-- What is wrong where tokens do not go on: the first of them cannot stand there, or they end too early.
abbrev pub misfit : List Token → ℕ → HoursFault
misfit [] end = fault_at fault.Incomplete end
misfit (t ∷ ts) end = fault_at (misfit_kind t.kind) t.from

-- ---- single tokens

-- the first token, if it is so
abbrev pub token_front : (TokenKind → Bool) → List Token → ℕ → Result Token HoursFault
token_front is [] end = Err (misfit [] end)
token_front is (t ∷ ts) end = if is t.kind then Ok t else Err (misfit (t ∷ ts) end)

abbrev pub month_at : ℕ → TokenKind → Result ℕ HoursFault
month_at from (kind.Month month) = Ok month
month_at from k = Err (fault_at (misfit_kind k) from)

abbrev pub month_front : List Token → ℕ → Result ℕ HoursFault
month_front [] end = Err (misfit [] end)
month_front (t ∷ ts) end = month_at t.from t.kind

abbrev pub weekday_of : TokenKind → ℕ
weekday_of (kind.Weekday weekday) = weekday
weekday_of k = 0

-- a number of at most so many digits, from 1 to another number
abbrev pub is_up_to : ℕ → ℕ → ℕ → ℕ → Bool
is_up_to digits most value count = nat_le count digits && nat_le 1 value && nat_le value most

abbrev pub number_at : ℕ → ℕ → ℕ → TokenKind → Result ℕ HoursFault
number_at digits most from (kind.Number value count) =
    if is_up_to digits most value count then Ok value else Err (fault_at fault.Range from)
number_at digits most from k = Err (fault_at (misfit_kind k) from)

-- the place of a weekday, 1 to 4
abbrev pub place_front : List Token → ℕ → Result ℕ HoursFault
place_front [] end = Err (misfit [] end)
place_front (t ∷ ts) end = number_at 1 4 t.from t.kind

-- The days of an offset: 1 to 27 days of a place, or 1 to 366 of Easter. An offset to a weekday is not read.
abbrev pub days_front : ℕ → ℕ → List Token → ℕ → Result ℕ HoursFault
days_front digits most [] end = Err (misfit [] end)
days_front digits most (t ∷ ts) end =
    if is_weekday t.kind then Err (fault_at fault.Unsupported t.from) else number_at digits most t.from t.kind

-- a number of four digits, which is a year from 1800 to 2799; or no year
abbrev pub year_in : ℕ → ℕ → Result (Option ℕ) HoursFault
year_in from value =
    if nat_le 1800 value && nat_le value 2799 then Ok (Some value) else Err (fault_at fault.Range from)

abbrev pub year_at : ℕ → TokenKind → Result (Option ℕ) HoursFault
year_at from (kind.Number value count) = if count == 4 then year_in from value else Ok None
year_at from k = Ok None

abbrev pub year_front : List Token → Result (Option ℕ) HoursFault
year_front [] = Ok None
year_front (t ∷ ts) = year_at t.from t.kind

-- what is behind it, if there is one
abbrev pub behind_read : Option ℕ → List Token → List Token
behind_read None ts = ts
behind_read (Some year) ts = later ts

-- ---- ends

-- how many days a month has: in that year, or in leap years
abbrev pub length_in : Option ℕ → ℕ → ℕ
length_in None month = month_length (pos 2000) month
length_in (Some year) month = month_length (pos year) month

-- `15`
abbrev pub day_end : Option ℕ → ℕ → Token → Result ReadEnd HoursFault
day_end year month t = do
  day ← number_at 2 (length_in year month) t.from t.kind
  Ok (record { end = Day month day; last = t })

-- Days before a place from the end of the month lead to the fourth last week at most.
abbrev pub suits : WrittenPlace → ℕ → Bool → Bool
suits place days before = not (place.is_back && before) || nat_le (7 * place.number + days) 28

-- `day` behind the number of an offset
abbrev pub moved_end : WrittenEnd → List Token → ℕ → Result ReadEnd HoursFault
moved_end moved ts end = do
  day ← token_front is_day ts end
  Ok (record { end = moved; last = day })

-- behind the number of an offset, which must suit its place
abbrev pub offset_by : WrittenPlace → ℕ → Token → List Token → ℕ → Result ReadEnd HoursFault
offset_by place days sign ts end =
    if suits place days (is_dash sign.kind) then moved_end (Place place days (is_dash sign.kind)) ts end
    else Err (fault_at fault.Range sign.from)

-- `+1 day`: behind a place
abbrev pub offset_end : WrittenPlace → List Token → ℕ → Result ReadEnd HoursFault
offset_end place [] end = Err (misfit [] end)
offset_end place (sign ∷ ts) end = do
  days ← days_front 2 27 ts end
  offset_by place days sign (later ts) end

-- Behind the place of a last end, a sign always begins an offset. Behind that of a first end a dash may be that of the range.
abbrev pub is_moved : Bool → List Token → Bool
is_moved is_first ts = if is_first then begins_offset ts else begins is_sign ts

-- `[-1` behind a month and a weekday
abbrev pub written_place : ℕ → ℕ → List Token → ℕ → Result WrittenPlace HoursFault
written_place month weekday ts end = do
  bracket ← token_front is_bracket ts end
  number ← place_front (at_number ts) end
  Ok (record { month = month; weekday = weekday; number = number; is_back = begins is_dash (later ts) })

-- behind the closing bracket of a place, which an offset follows or not
abbrev pub place_with : Bool → WrittenPlace → Token → List Token → ℕ → Result ReadEnd HoursFault
place_with true place closing ts end = offset_end place ts end
place_with false place closing ts end = Ok (record { end = Place place 0 false; last = closing })

-- `[-1] +1 day`
abbrev pub place_end : Bool → ℕ → ℕ → List Token → ℕ → Result ReadEnd HoursFault
place_end is_first month weekday ts end = do
  place ← written_place month weekday ts end
  closing ← token_front is_closing (later (at_number ts)) end
  place_with (is_moved is_first (behind_brackets ts)) place closing (behind_brackets ts) end

-- what is behind the month of an end
abbrev pub month_end : Bool → Option ℕ → ℕ → List Token → ℕ → Result ReadEnd HoursFault
month_end is_first year month [] end = Err (misfit [] end)
month_end is_first year month (t ∷ ts) end =
    if is_weekday t.kind then place_end is_first month (weekday_of t.kind) ts end else day_end year month t

-- `+1 day`: behind `easter`, which stands there
abbrev pub easter_offset : ℕ → List Token → ℕ → Result ReadEnd HoursFault
easter_offset from [] end = Err (misfit [] end)
easter_offset from (sign ∷ ts) end = do
  days ← days_front 3 366 ts end
  moved_end (Easter days (is_dash sign.kind) from) (later ts) end

-- Behind `easter` as a last end a sign always begins an offset. As a first end a dash may be that of the range, but not before a
-- weekday.
abbrev pub is_easter_moved : Bool → List Token → Bool
is_easter_moved is_first ts =
    if is_first then begins_offset ts || begins is_plus ts || (begins is_dash ts && begins is_weekday (later ts))
    else begins is_sign ts

-- `easter +1 day`
abbrev pub easter_end : Bool → List Token → ℕ → Result ReadEnd HoursFault
easter_end is_first [] end = Err (misfit [] end)
easter_end is_first (t ∷ ts) end =
    if is_easter_moved is_first ts then easter_offset t.from ts end else Ok (record { end = Easter 0 false t.from; last = t })

-- an end: `Oct 15`, `Mar Su[-1] +1 day` or `easter +1 day`
abbrev pub dated_end : Bool → Option ℕ → List Token → ℕ → Result ReadEnd HoursFault
dated_end is_first year ts end = do
  month ← month_front ts end
  month_end is_first year month (later ts) end

abbrev pub end_front : Bool → Option ℕ → List ℕ → List Token → Result ReadEnd HoursFault
end_front is_first year text ts =
    if begins_easter text ts then easter_end is_first ts (length text) else dated_end is_first year ts (length text)

-- ---- ranges

-- Only where the first end has a year may the last one have one.
abbrev pub last_year_front : Option ℕ → List Token → Result (Option ℕ) HoursFault
last_year_front None ts = Ok None
last_year_front (Some year) ts = year_front ts

-- what is behind the dash, behind the year and the first end of a range
abbrev pub range_to : Option ℕ → WrittenEnd → List ℕ → List Token → Result ReadRange HoursFault
range_to year first text ts = do
  last_year ← last_year_front year ts
  last ← end_front false last_year text (behind_read last_year ts)
  Ok (record {
    range = record { year = year; first = first; last_year = last_year; last = last.end };
    is_one = false;
    last = last.last;
  })

-- one day of a year
abbrev pub one_day : Option ℕ → ReadEnd → ReadRange
one_day year day = record {
  range = record { year = year; first = day.end; last_year = year; last = day.end };
  is_one = true;
  last = day.last;
}

-- what is behind the year and the first end: a dash and what goes on, or nothing that belongs to them
abbrev pub range_from : Option ℕ → ReadEnd → List ℕ → List Token → Result ReadRange HoursFault
range_from year first text ts =
    if begins is_dash ts then range_to year first.end text (later ts) else Ok (one_day year first)

-- a range, or Easter of a year, that tokens begin
abbrev pub range_front : List ℕ → List Token → Result ReadRange HoursFault
range_front text ts = do
  year ← year_front ts
  first ← end_front true year text (behind_read year ts)
  range_from year first text (behind_end text (behind_read year ts))

-- how many tokens it is
abbrev pub year_tokens : Option ℕ → ℕ
year_tokens None = 0
year_tokens (Some year) = 1

abbrev pub end_tokens : WrittenEnd → ℕ
end_tokens (Day month day) = 2
end_tokens (Place place days before) =
    (if place.is_back then 6 else 5) + (if days == 0 then 0 else 3)
end_tokens (Easter days before from) = if days == 0 then 1 else 4

abbrev pub range_tokens : ReadRange → ℕ
range_tokens read =
    year_tokens read.range.year + end_tokens read.range.first
    + (if read.is_one then 0 else 1 + year_tokens read.range.last_year + end_tokens read.range.last)
