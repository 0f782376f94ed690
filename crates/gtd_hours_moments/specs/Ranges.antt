-- The ranges of times that a form stands for, in minutes after 00:00 of the day on which they begin.
use Rattle.std.specs.Prelude.{ℕ, zero, suc, ◌+◌, ◌-◌, min, max, Bool, true, false, List, [], ◌∷◌, Option, Some, None}
use Rattle.gtd_hours_times.specs.declared.moment.TimeForm.{TimeForm}
use Rattle.gtd_hours_moments.specs.declared.clocks.Clocks.{Clocks}
use Rattle.gtd_hours_moments.specs.declared.ranges.MinuteRange.{MinuteRange}
use Rattle.gtd_hours_moments.specs.Minutes.{last_minute, lasting, minute_at}

abbrev pub range_after : ℕ → ℕ → MinuteRange
range_after begin long = record { begin = begin; end = begin + long }

-- ---- open ends: up to what is given, or up to the second moment if the range is longer then

abbrev pub open_lasting : ℕ → Option ℕ → ℕ → ℕ
open_lasting begin None end = lasting begin end
open_lasting begin (Some last) end = max (lasting begin last) (lasting begin end)

abbrev pub open_ranges : ℕ → Option ℕ → Option ℕ → List MinuteRange
open_ranges begin last None = []
open_ranges begin last (Some end) = range_after begin (open_lasting begin last end) ∷ []

-- ---- points

abbrev pub point_ranges : ℕ → Option ℕ → List MinuteRange
point_ranges begin None = []
point_ranges begin (Some long) = range_after begin long ∷ []

-- How many minutes there are from one on, up to one that is so much later, and before 24:00.
abbrev pub before_midnight : ℕ → ℕ → ℕ
before_midnight begin long = min (begin + long + 1) 1440 - begin

-- Of so many minutes from one on, the points: the first after so many, and each one a step after the point before.
abbrev pub points_in : ℕ → ℕ → ℕ → ℕ → ℕ → List MinuteRange
points_in zero wait step minute long = []
points_in (suc left) zero step minute long = range_after minute long ∷ points_in left (step - 1) step (minute + 1) long
points_in (suc left) (suc wait) step minute long = points_in left wait step (minute + 1) long

-- Points from the first moment on, each a step later, not after the second moment and before 24:00.
abbrev pub step_ranges : ℕ → ℕ → ℕ → Option ℕ → List MinuteRange
step_ranges begin last step None = []
step_ranges begin last step (Some long) = points_in (before_midnight begin (lasting begin last)) 0 step begin long

-- ---- all forms

abbrev pub ranges_between : ℕ → ℕ → Option ℕ → Option ℕ → List MinuteRange
ranges_between begin last None points = range_after begin (lasting begin last) ∷ []
ranges_between begin last (Some step) points = step_ranges begin last step points

abbrev pub closed_ranges : ℕ → Option ℕ → Option ℕ → Option ℕ → List MinuteRange
closed_ranges begin None step points = point_ranges begin points
closed_ranges begin (Some last) step points = ranges_between begin last step points

abbrev pub ranges_by : Bool → ℕ → Option ℕ → Option ℕ → Clocks → List MinuteRange
ranges_by true begin last step clocks = open_ranges begin last clocks.open_end
ranges_by false begin last step clocks = closed_ranges begin last step clocks.points

abbrev pub ranges : TimeForm → Clocks → List MinuteRange
ranges form clocks =
    ranges_by form.is_open (minute_at clocks form.begin) (last_minute clocks form.last) form.step clocks
