-- The limits of the profile, each under its one name. A day is given by its number; 1970-01-01 is day 0.
use Rattle.std.specs.Prelude.{ℕ, ℤ, pos, neg_ℤ}

-- the seconds of a day
abbrev pub day_seconds : ℕ
day_seconds = 86_400

-- the last second of a day, of which the first is 0
abbrev pub last_second_of_day : ℕ
last_second_of_day = 86_399

-- the first day of horizons, of moments and of dates that are read: 1901-01-01
abbrev pub first_horizon_day : ℤ
first_horizon_day = neg_ℤ (pos 25_202)

-- the latest end of a horizon, and the last date that is read: 2700-01-01
abbrev pub horizons_end : ℤ
horizons_end = pos 266_627

-- the most days of a horizon: one more than 400 years have
abbrev pub most_horizon_days : ℕ
most_horizon_days = 146_098

-- the day before which all moments are: 2200-01-01
abbrev pub moments_end : ℤ
moments_end = pos 84_006

-- the first and the last day that the calendar is asked for: 1800-01-01 and 2799-12-31
abbrev pub first_calendar_day : ℤ
first_calendar_day = neg_ℤ (pos 62_091)

abbrev pub last_calendar_day : ℤ
last_calendar_day = pos 303_150

-- the greatest bound of a stretch, in seconds: 36,600 days
abbrev pub most_bound : ℕ
most_bound = 3_162_240_000

-- the first day on which a stretch that reaches a horizon can begin: 36,600 days before the first day of horizons
abbrev pub first_window_day : ℤ
first_window_day = neg_ℤ (pos 61_802)

-- the most basic domains of a domain, and of parentheses in a text
abbrev pub most_basic_domains : ℕ
most_basic_domains = 128

-- the greatest depth of brackets in a text
abbrev pub most_depth : ℕ
most_depth = 128

-- the most bytes of a record file
abbrev pub most_file_bytes : ℕ
most_file_bytes = 16_777_216

-- the most rows of a record file, not counting its header
abbrev pub most_rows : ℕ
most_rows = 65_536

-- the most nodes of a cursor: as many as the most rows with the most basic domains make, united and complemented
abbrev pub most_nodes : ℕ
most_nodes = 16_777_216
