-- What the words stand for that say when open ends of opening hours are, how long points of time last, and when events of the
-- sun are.
use Rattle.std.specs.Prelude.{◌≡◌, ◌==◌, ◌&&◌, ◌+◌, ◌*◌, ℕ, Option, Some, None, IsSomeAnd, drop, get_or, if◌then◌else◌}
use Rattle.std.specs.Prelude.{length, nat_le, nat_lt, take}
use Rattle.gtd_rows.specs.Columns.{number_of}
use Rattle.gtdesk_words.specs.Text.{Text}

-- The minute of the day at these hours and minutes, if there are fewer than 60 minutes, and it is this one at most.
abbrev pub minute_of : ℕ → ℕ → ℕ → Option ℕ
minute_of most hours minutes =
    if nat_lt minutes 60 && nat_le (hours * 60 + minutes) most then Some (hours * 60 + minutes) else None

-- the same of hours and minutes that may be no numbers
abbrev pub and_minutes : ℕ → ℕ → Option ℕ → Option ℕ
and_minutes most hours None = None
and_minutes most hours (Some minutes) = minute_of most hours minutes

abbrev pub minute_at : ℕ → Option ℕ → Option ℕ → Option ℕ
minute_at most None minutes = None
minute_at most (Some hours) minutes = and_minutes most hours minutes

-- The minute of the day that a word is, `HH:MM`, if it is this one at most: two digits, a colon (58), and two digits.
abbrev pub clock_in : ℕ → Text → Option ℕ
clock_in most text =
    if (length text == 5) && (get_or text 2 0 == 58)
    then minute_at most (number_of (take 2 text)) (number_of (take 2 (drop 3 text)))
    else None

-- The minute of an open end, from 00:00 to 48:00: from 24:00 on it is on the next day.
abbrev pub open_end_in : Text → Option ℕ
open_end_in text = clock_in 2880 text

-- The minute of an event of the sun, from 00:00 to 24:00.
abbrev pub event_in : Text → Option ℕ
event_in text = clock_in 1440 text

-- How many minutes a point of time lasts: 1 to 1440, in decimal digits of which the first is not `0` (48).
abbrev pub upto_a_day : Option ℕ → Option ℕ
upto_a_day None = None
upto_a_day (Some minutes) = if nat_le 1 minutes && nat_le minutes 1440 then Some minutes else None

abbrev pub points_in : Text → Option ℕ
points_in text = if get_or text 0 48 == 48 then None else upto_a_day (number_of text)

-- What a word that may be left out gives, as it is read: without it, nothing is given.
abbrev pub IsGivenBy : (Text → Option ℕ) → Option Text → Option ℕ → Type 0
IsGivenBy read None given = given ≡ None
IsGivenBy read (Some text) given = IsSomeAnd given (λ minutes. read text ≡ Some minutes)
