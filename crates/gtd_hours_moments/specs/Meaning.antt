-- What the ranges of forms are, apart from how they are computed.
use Rattle.std.specs.Prelude.{ℕ, ◌≡◌, ◌+◌, ◌*◌, ◌/◌, ◌%◌, ◌<◌, ◌≤◌, ◌⊎◌, false, List, [], ◌∷◌, ◌++◌, Option, Some, None}
use Rattle.gtd_hours.specs.Written.{two_digits}
use Rattle.gtd_hours_parts.specs.declared.clock.ClockTime.{ClockTime}
use Rattle.gtd_hours_times.specs.declared.moment.Moment.{Moment}
use Rattle.gtd_hours_times.specs.declared.moment.TimeForm.{TimeForm}
use Rattle.gtd_hours_moments.specs.Minutes.{minute_at}
use Rattle.gtd_hours_moments.specs.Ranges.{ranges}
use Rattle.gtd_hours_moments.specs.declared.clocks.Clocks.{Clocks}
use Rattle.gtd_hours_moments.specs.declared.ranges.MinuteRange.{MinuteRange}

-- It is one of these.
abbrev pub IsAmong : MinuteRange → List MinuteRange → Type 0
IsAmong range [] = ⊥
IsAmong range (x ∷ xs) = (range ≡ x) ⊎ IsAmong range xs

-- Each of them is such a one.
abbrev pub Each : (MinuteRange → Type 0) → List MinuteRange → Type 0
Each Is [] = Unit {0}
Each Is (x ∷ xs) = Is x × Each Is xs

-- A point that lasts so long: some steps after the first minute, not more than so much after it, and before 24:00.
pub record IsPoint (begin long step point : ℕ) (range : MinuteRange) : Type 0 where
  pub steps : ℕ
  pub begins : range.begin ≡ begin + steps * step
  pub within : range.begin ≤ begin + long
  pub before : range.begin < 1440
  pub ends : range.end ≡ range.begin + point

-- It begins before 24:00, and lasts a minute at least and 24 hours at most.
pub record IsOfDay (range : MinuteRange) : Type 0 where
  pub begins : range.begin < 1440
  pub some : range.begin < range.end
  pub most : range.end ≤ range.begin + 1440

abbrev pub IsSomeRange : List MinuteRange → Type 0
IsSomeRange [] = ⊥
IsSomeRange (x ∷ xs) = Unit {0}

abbrev pub EachForm : (TimeForm → Type 0) → List TimeForm → Type 0
EachForm Is [] = Unit {0}
EachForm Is (form ∷ forms) = Is form × EachForm Is forms

-- A form that begins before 24:00 stands for some ranges, each of a day.
abbrev pub IsDaily : Clocks → TimeForm → Type 0
IsDaily clocks form =
    minute_at clocks form.begin < 1440 → IsSomeRange (ranges form clocks) × Each IsOfDay (ranges form clocks)

abbrev pub IsTimeOnly : Option Moment → Type 0
IsTimeOnly None = ⊥
IsTimeOnly (Some moment) = moment.event ≡ None

-- Two times, and no sign.
pub record IsPlainRange (form : TimeForm) : Type 0 where
  pub begin : form.begin.event ≡ None
  pub last : IsTimeOnly form.last
  pub closed : form.is_open ≡ false
  pub step : form.step ≡ None

-- The time of a minute, and as it is written: the sign : is 58.
abbrev pub time_at : ℕ → ClockTime
time_at minute = record { hour = minute / 60 % 100; minute = minute % 60 }

abbrev pub time_text : ClockTime → List ℕ
time_text time = two_digits time.hour ++ 58 ∷ two_digits time.minute
