-- Times of a clock, as they are written.
use Rattle.std.specs.Prelude.{ℕ, ◌+◌, ◌*◌, ◌≤◌}
use Rattle.gtd_hours_parts.specs.declared.clock.ClockTime.{ClockTime}

-- the minute of the day, or of the next one
abbrev pub minute_of : ClockTime → ℕ
minute_of time = 60 * time.hour + time.minute

-- a range begins from 00:00 to 23:59
abbrev pub IsBegin : ClockTime → Type 0
IsBegin time = (time.hour ≤ 23) × (time.minute ≤ 59)

-- and ends from 00:00 to 48:00
abbrev pub IsEnd : ClockTime → Type 0
IsEnd time = (time.minute ≤ 59) × (minute_of time ≤ 48 * 60)
