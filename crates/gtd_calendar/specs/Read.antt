-- What reading a date or a moment answers.
use Rattle.std.specs.Prelude.{ℕ, ◌+◌, ◌-◌, ◌*◌, Bool, ◌&&◌, ◌||◌, nat_le, nat_lt, if◌then◌else◌, List, ◌∷◌, take, drop}
use Rattle.std.specs.Prelude.{slice_index, bytes_eq, Option, Some, None, Result, Ok, Err, ℤ, pos, neg_ℤ, ◌+ℤ◌, ◌*ℤ◌, ◌≤ℤ◌}
use Rattle.std.specs.Prelude.{int_lt}
use Rattle.gtd_core.specs.Limits.{day_seconds, first_horizon_day, horizons_end}
use Rattle.gtd_core.specs.Seconds.{IsMomentSecond}
use Rattle.gtd_core.specs.declared.second.Sec.{Sec}
use Rattle.gtd_calendar.specs.declared.stamp.StampFault.{StampFault}
use Rattle.gtd_calendar.specs.declared.stamp.StampFault.TheVariants.{Shape, NoSuchDate, Range}
use Rattle.gtd_calendar.specs.Calendar.{IsDate, month_length, day_number}
use Rattle.gtd_calendar.specs.Clock.{IsClock}
use Rattle.gtd_calendar.specs.Stamp.{ymd_text, hms_text, IsYmdText, IsMomentText, IsDateText, IsStampText}

-- the days that are read: 1901-01-01 to 2700-01-01
abbrev pub IsReadableDay : ℤ → Type 0
IsReadableDay n = (first_horizon_day ≤ℤ n) × (n ≤ℤ horizons_end)

-- A day is read from its own text. Otherwise the first of three faults is answered: the text does not have the shape of
-- a date; there is no such date; its day is out of range.
abbrev pub IsReadDate : List ℕ → Result ℤ StampFault → Type 0
IsReadDate text (Ok n) = IsDateText n text × IsReadableDay n
IsReadDate text (Err Shape) = (y m d : ℕ) → IsYmdText text y m d → ⊥
IsReadDate text (Err NoSuchDate) = (y : ℕ) × (m : ℕ) × (d : ℕ) × IsYmdText text y m d × (IsDate (pos y) m d → ⊥)
IsReadDate text (Err Range) = (n : ℤ) × IsDateText n text × (IsReadableDay n → ⊥)

-- A second is read from its own text. Otherwise the first of three faults is answered: the text does not have the shape
-- of a moment; there is no such date or no such clock time; the second is out of range.
abbrev pub IsReadStamp : List ℕ → Result Sec StampFault → Type 0
IsReadStamp text (Ok x) = IsStampText x.0 text × IsMomentSecond x.0
IsReadStamp text (Err Shape) = (y m d h min s : ℕ) → IsMomentText text y m d h min s → ⊥
IsReadStamp text (Err NoSuchDate) =
    (y : ℕ) × (m : ℕ) × (d : ℕ) × (h : ℕ) × (min : ℕ) × (s : ℕ)
    × IsMomentText text y m d h min s × (IsDate (pos y) m d → IsClock h min s → ⊥)
IsReadStamp text (Err Range) = (s : ℤ) × IsStampText s text × (IsMomentSecond s → ⊥)

-- What follows computes the answers. A law of this crate says that there are no others. First, the digit at a place of
-- a text, and the number of two digits.
abbrev pub digit_at : List ℕ → ℕ → ℕ
digit_at text i = slice_index text i - 48

abbrev pub two_at : List ℕ → ℕ → ℕ
two_at text i = 10 * digit_at text i + digit_at text (i + 1)

-- these numbers, if the text is a date made of them
abbrev pub ymd_if : List ℕ → ℕ → ℕ → ℕ → Option (ℕ × ℕ × ℕ)
ymd_if text y m d = if bytes_eq text (ymd_text y m d) then Some (y, m, d) else None

-- these numbers, if the text is a clock made of them
abbrev pub hms_if : List ℕ → ℕ → ℕ → ℕ → Option (ℕ × ℕ × ℕ)
hms_if text h m s = if bytes_eq text (84 ∷ hms_text h m s) then Some (h, m, s) else None

-- the numbers of a text of the shape YYYY-MM-DD
unfoldable pub ymd_in : List ℕ → Option (ℕ × ℕ × ℕ)
ymd_in text = ymd_if text (100 * two_at text 0 + two_at text 2) (two_at text 5) (two_at text 8)

-- the numbers of a text of the shape Thh:mm:ss
unfoldable pub hms_in : List ℕ → Option (ℕ × ℕ × ℕ)
hms_in text = hms_if text (two_at text 1) (two_at text 4) (two_at text 7)

-- whether the calendar has the date, and the clock the time
abbrev pub is_date : ℤ → ℕ → ℕ → Bool
is_date y m d = nat_le 1 m && nat_le m 12 && nat_le 1 d && nat_le d (month_length y m)

abbrev pub is_clock : ℕ → ℕ → ℕ → Bool
is_clock h m s = nat_lt h 24 && nat_lt m 60 && nat_lt s 60

-- the answer for a day, and for a second, by its range
abbrev pub day_in_range : ℤ → Result ℤ StampFault
day_in_range n = if int_lt n first_horizon_day || int_lt horizons_end n then Err Range else Ok n

abbrev pub second_in_range : ℤ → Result Sec StampFault
second_in_range s =
    if int_lt s (neg_ℤ (pos 2_177_452_800)) || int_lt (pos 7_258_118_399) s then Err Range
    else Ok (record { 0 = s })

-- the answer for the numbers of a date
abbrev pub day_if_any : Option (ℕ × ℕ × ℕ) → Result ℤ StampFault
day_if_any None = Err Shape
day_if_any (Some x) =
    if is_date (pos x.0) x.1 x.2 then day_in_range (day_number (pos x.0) x.1 x.2) else Err NoSuchDate

-- the second with the numbers of a date and of a clock
abbrev pub second_number : ℕ × ℕ × ℕ → ℕ × ℕ × ℕ → ℤ
second_number x c = pos day_seconds *ℤ day_number (pos x.0) x.1 x.2 +ℤ pos (3600 * c.0 + 60 * c.1 + c.2)

-- the answer for these
abbrev pub second_if_any : Option (ℕ × ℕ × ℕ) → Option (ℕ × ℕ × ℕ) → Result Sec StampFault
second_if_any None c = Err Shape
second_if_any (Some x) None = Err Shape
second_if_any (Some x) (Some c) =
    if is_date (pos x.0) x.1 x.2 && is_clock c.0 c.1 c.2 then second_in_range (second_number x c)
    else Err NoSuchDate

-- the day that a text stands for, or its first fault
unfoldable pub date_in : List ℕ → Result ℤ StampFault
date_in text = day_if_any (ymd_in text)

-- the second that a text stands for, or its first fault: ten bytes of a date, and then those of a clock
unfoldable pub stamp_in : List ℕ → Result Sec StampFault
stamp_in text = second_if_any (ymd_in (take 10 text)) (hms_in (drop 10 text))
