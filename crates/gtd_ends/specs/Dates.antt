-- Dates of each year: months and days later, where no leap day decides.
use Rattle.std.specs.Prelude.{ℕ, zero, suc, ◌+◌, ◌-◌, ◌/◌, ◌%◌, ◌==◌, ◌&&◌, ◌||◌, Bool, Option, Some, None, if◌then◌else◌}
use Rattle.std.specs.Prelude.{nat_lt, nat_le}

-- the days of a month that it has in each year
abbrev pub sure_length : ℕ → ℕ
sure_length month =
    if month == 2 then 28 else (if (month == 4) || (month == 6) || (month == 9) || (month == 11) then 30 else 31)

abbrev pub least : ℕ → ℕ → ℕ
least a b = if nat_lt a b then a else b

-- A date of a later year: how many years later it is, its month, and its day of the month. This is the start's month and day
-- moved by months, unless a leap day decides what it is.
abbrev pub date_at : ℕ → ℕ → Option (ℕ × ℕ × ℕ)
date_at count day =
    if (count % 12 == 1) && nat_lt 28 day then None
    else Some (count / 12, count % 12 + 1, least (sure_length (count % 12 + 1)) day)

-- The date moved by days, over so many ends of months at most, unless a leap day decides what it is.
unfoldable pub days_on : ℕ → ℕ → ℕ → ℕ → ℕ → Option (ℕ × ℕ × ℕ)
days_on zero year month day days = None
days_on (suc ends) year month day days =
    if nat_le (day + days) (sure_length month) then Some (year, month, day + days)
    else (if month == 2 then None
    else days_on ends (year + month / 12) (month % 12 + 1) 1 (day + days - sure_length month - 1))

-- A date is over in the year of the start.
abbrev pub is_before : ℕ → ℕ → ℕ × ℕ → Bool
is_before month day start = nat_lt month start.0 || ((month == start.0) && nat_lt day start.1)

-- how many years later than the start a date first comes
abbrev pub years_until : ℕ × ℕ → ℕ → ℕ → ℕ
years_until start month day = if is_before month day start then 1 else 0
