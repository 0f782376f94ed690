-- Seconds of the local civil clock: spans of them, their days, and those that may be asked for.
use Rattle.std.specs.Prelude.{ℤ, ◌≤ℤ◌, ◌<ℤ◌, pos, ◌+ℤ◌, ◌*ℤ◌}
use Rattle.std.specs.Int.{int_div_euclid}
use Rattle.gtd_core.specs.declared.horizon.Horizon.{Horizon}
use Rattle.gtd_core.specs.Limits.{day_seconds, first_horizon_day, horizons_end, moments_end}

-- the seconds from `from` up to but not including `until`
pub record Interval : Type 0 where
  pub from : ℤ
  pub until : ℤ

-- the interval holds the second
abbrev pub Within : Interval → ℤ → Type 0
Within x t = (x.from ≤ℤ t) × (t <ℤ x.until)

-- all seconds of the days of a horizon, of which each has 86,400
abbrev pub whole : Horizon → Interval
whole horizon = record { from = horizon.from_day *ℤ pos 86_400; until = horizon.to_day *ℤ pos 86_400 }

-- The second is on the day. Each day has 86,400 seconds, and 1970-01-01 is day 0.
abbrev pub IsOnDay : ℤ → ℤ → Type 0
IsOnDay t day = ((day *ℤ pos day_seconds) ≤ℤ t) × (t <ℤ ((day +ℤ pos 1) *ℤ pos day_seconds))

-- that day, computed
unfoldable pub day_of_second : ℤ → ℤ
day_of_second t = int_div_euclid t (pos 86_400)

-- A moment: a second from 1901-01-01T00:00:00 to 2199-12-31T23:59:59. Day -25,202 is 1901-01-01, and day 84,006 is
-- 2200-01-01.
abbrev pub IsMomentSecond : ℤ → Type 0
IsMomentSecond s = ((first_horizon_day *ℤ pos day_seconds) ≤ℤ s) × (s <ℤ (moments_end *ℤ pos day_seconds))

-- A second of the days that horizons have: from 1901-01-01 (day -25,202) to the end of 2699-12-31 (day 266,626).
abbrev pub IsHorizonSecond : ℤ → Type 0
IsHorizonSecond s = ((first_horizon_day *ℤ pos day_seconds) ≤ℤ s) × (s <ℤ (horizons_end *ℤ pos day_seconds))
