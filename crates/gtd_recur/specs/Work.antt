-- The days and the starts that a horizon asks for, and what looking for them costs.
use Rattle.std.specs.Prelude.{ℕ, zero, suc, ◌+◌, ◌&&◌, not, if◌then◌else◌, List, [], ◌∷◌, map, filter, count_by, length, ℤ}
use Rattle.std.specs.Prelude.{pos, ◌+ℤ◌, ◌-ℤ◌, ◌*ℤ◌, int_lt, unsigned_abs}
use Rattle.std.specs.List.{flat_map}
use Rattle.gtd_core.specs.Limits.{day_seconds}
use Rattle.gtd_core.specs.declared.start.StartParts.{StartParts}
use Rattle.gtd_core.specs.declared.domain.Basic.{Basic}
use Rattle.gtd_core.specs.declared.horizon.Horizon.{Horizon}
use Rattle.gtd_core.specs.Ranges.{lookback_of}
use Rattle.gtd_core.specs.Parts.{start_parts, duration_parts}
use Rattle.gtd_core.specs.Whole.{from_day, to_day}
use Rattle.gtd_calendar.specs.ComputedFields.{day_fields}
use Rattle.gtd_core.specs.Seconds.{day_of_second}
use Rattle.gtd_recur.specs.Begins.{begins_on, begins_at, month_and_year_fit}

-- k days from day n on
unfoldable pub days_from : ℤ → ℕ → List ℤ
days_from n zero = []
days_from n (suc k) = n ∷ days_from (n +ℤ pos 1) k

-- the days from a up to but not including b
unfoldable pub days_between : ℤ → ℤ → List ℤ
days_between a b = days_from a (unsigned_abs (b -ℤ a))

-- the numbers from n on, k of them
unfoldable pub numbers_from : ℕ → ℕ → List ℕ
numbers_from n zero = []
numbers_from n (suc k) = n ∷ numbers_from (n + 1) k

-- the seconds of a day that the start matches, in order
unfoldable pub starts_on : StartParts → ℤ → List ℤ
starts_on p n =
    if begins_on p (day_fields n)
    then map (λ k. pos day_seconds *ℤ n +ℤ pos k) (filter (begins_at p) (numbers_from 0 day_seconds)) else []

-- those of days
unfoldable pub starts_of : StartParts → List ℤ → List ℤ
starts_of p days = flat_map (starts_on p) days

-- what may be counted up to second t: the days up to its own, and the starts up to it
unfoldable pub work : StartParts → List ℤ → ℤ → ℕ
work p days t =
    count_by (λ n. not (int_lt (day_of_second t) n)) days + count_by (λ b. not (int_lt t b)) (starts_of p days)

-- and in all
unfoldable pub whole_work : StartParts → List ℤ → ℕ
whole_work p days = length days + length (starts_of p days)

-- what must be counted before second t: the days before its own that no given month or year excludes, and the starts
-- before it
unfoldable pub least_work : StartParts → List ℤ → ℤ → ℕ
least_work p days t =
    count_by (λ n. int_lt n (day_of_second t) && month_and_year_fit p n) days
    + count_by (λ b. int_lt b t) (starts_of p days)

-- the first day on which a stretch that reaches the horizon can begin
unfoldable pub window_begin : Basic → Horizon → ℤ
window_begin d h = from_day h -ℤ pos (lookback_of (duration_parts d.duration))

-- the days of the window: those of the horizon and of the lookback before it
abbrev pub window : Basic → Horizon → List ℤ
window d h = days_between (window_begin d h) (to_day h)

-- the days of the horizon
abbrev pub horizon_days : Horizon → List ℤ
horizon_days h = days_between (from_day h) (to_day h)

-- the seconds of the window that the start matches, in order
abbrev pub starts_in : Basic → Horizon → List ℤ
starts_in d h = starts_of (start_parts d.start) (window d h)

-- the work of a basic domain over a horizon, up to a second
abbrev pub work_up_to : Basic → Horizon → ℤ → ℕ
work_up_to d h t = work (start_parts d.start) (window d h) t

-- and in all
abbrev pub work_of : Basic → Horizon → ℕ
work_of d h = whole_work (start_parts d.start) (window d h)

-- the least work before a second: of the days of the window, and of those of the horizon alone
abbrev pub least_of_window : Basic → Horizon → ℤ → ℕ
least_of_window d h t = least_work (start_parts d.start) (window d h) t

abbrev pub least_of_horizon : Basic → Horizon → ℤ → ℕ
least_of_horizon d h t = least_work (start_parts d.start) (horizon_days h) t

-- what is counted in all: the days of the window that no given month or year excludes, and its starts
unfoldable pub counted_work : Basic → Horizon → ℕ
counted_work d h =
    count_by (month_and_year_fit (start_parts d.start)) (window d h) + length (starts_in d h)
