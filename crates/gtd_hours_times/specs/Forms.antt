-- Moments and forms of times, as they are read token by token: what becomes of a token that a moment ends with.
use Rattle.std.specs.Prelude.{ℕ, ◌+◌, ◌*◌, ◌==◌, ◌&&◌, ◌||◌, not, Bool, true, false, List, [], ◌∷◌, pos, is_some}
use Rattle.std.specs.Prelude.{Option, Some, None, if◌then◌else◌}
use Rattle.gtd_hours_times.specs.declared.behind.Behind.{Behind}
use Rattle.gtd_hours_times.specs.declared.behind.Behind.TheVariants as behind
use Rattle.gtd_hours_times.specs.declared.behind.Start.{Start}
use Rattle.gtd_hours_times.specs.declared.behind.Step.{Step}
use Rattle.gtd_hours_times.specs.declared.behind.Written.{Written}
use Rattle.gtd_hours_times.specs.declared.behind.Written.TheVariants as written
use Rattle.gtd_hours_times.specs.declared.moment.Moment.{Moment}
use Rattle.gtd_hours_times.specs.declared.moment.TimeForm.{TimeForm}
use Rattle.gtd_hours_times.specs.declared.times.TimeKind.{TimeKind}
use Rattle.gtd_hours_times.specs.declared.times.TimeKind.TheVariants as kind
use Rattle.gtd_hours_times.specs.declared.times.TimeToken.{TimeToken}

abbrev pub is_plus : TimeKind → Bool
is_plus kind.Plus = true
is_plus k = false

abbrev pub is_dash : TimeKind → Bool
is_dash kind.Dash = true
is_dash k = false

abbrev pub is_slash : TimeKind → Bool
is_slash kind.Slash = true
is_slash k = false

abbrev pub is_event : TimeKind → Bool
is_event (kind.Event e) = true
is_event k = false

abbrev pub begins_event : List TimeToken → Bool
begins_event [] = false
begins_event (t ∷ ts) = is_event t.kind

-- ---- moments

abbrev pub time_minutes : ℕ → ℕ → ℕ
time_minutes hour minute = 60 * hour + minute

abbrev pub time_moment : ℕ → ℕ → ℕ → Moment
time_moment place hour minute = record { event = None; minutes = pos (time_minutes hour minute); place = place }

-- A form goes on behind its first moment with a plus or a dash, and behind its second with a plus or a slash.
abbrev pub goes_on_with : Option Moment → TimeKind → Bool
goes_on_with None k = is_plus k || is_dash k
goes_on_with (Some begin) k = is_plus k || is_slash k

abbrev pub goes_on : Start → List TimeToken → Bool
goes_on start [] = false
goes_on start (t ∷ ts) = goes_on_with start.first t.kind

-- ---- what stands for a moment in the checked text

abbrev pub is_last_midnight : Moment → ℕ → ℕ → Bool
is_last_midnight begin hour minute = is_some begin.event && (hour == 48) && (minute == 0)

-- A range from an event, for which 23:59 stands, lasts at most 24 hours in the checked text.
abbrev pub last_time_form : Moment → ℕ → ℕ → Written
last_time_form begin hour minute = if is_last_midnight begin hour minute then written.LastMinute else written.Time

abbrev pub time_by : Option Moment → ℕ → ℕ → Bool → Written
time_by (Some begin) hour minute on = last_time_form begin hour minute
time_by None hour minute on = if on then written.Time else written.TimeToMidnight

abbrev pub time_form : Start → ℕ → ℕ → List TimeToken → Written
time_form start hour minute later = time_by start.first hour minute (goes_on start later)

abbrev pub event_by : Option Moment → Bool → Written
event_by (Some begin) on = written.Last
event_by None on = if on then written.First else written.FirstToMidnight

abbrev pub event_form : Start → List TimeToken → Written
event_form start later = event_by start.first (goes_on start later)

-- A moment in parentheses: 23:59 stands at its beginning if it is the first, and 12:00 at its end if it is the second.
abbrev pub opened_by : Option Moment → Written
opened_by (Some begin) = written.Nothing
opened_by None = written.First

abbrev pub opened_form : Start → Written
opened_form start = opened_by start.first

abbrev pub closed_by : Option Moment → Bool → Written
closed_by (Some begin) on = written.Last
closed_by None on = if on then written.Nothing else written.ToMidnight

abbrev pub closed_form : Start → List TimeToken → Written
closed_form start later = closed_by start.first (goes_on start later)

-- ---- behind a moment

abbrev pub plain_by : ℕ → Option Moment → Moment → TimeForm
plain_by from None moment =
    record { from = from; begin = moment; last = None; is_open = false; step = None; sign = 0 }
plain_by from (Some begin) moment =
    record { from = from; begin = begin; last = Some moment; is_open = false; step = None; sign = 0 }

-- A form without a sign: one moment, or two.
abbrev pub plain_form : Start → Moment → TimeForm
plain_form start moment = plain_by start.from start.first moment

abbrev pub whole_at : Start → Moment → List TimeToken → Option TimeForm
whole_at start moment later = if goes_on start later then None else Some (plain_form start moment)

abbrev pub behind_by : ℕ → Option Moment → Moment → Behind
behind_by from None moment = behind.Begun from moment
behind_by from (Some begin) moment = behind.Ranged from begin moment

abbrev pub behind_moment : Start → Moment → List TimeToken → Behind
behind_moment start moment later =
    if not (goes_on start later) then behind.Whole else behind_by start.from start.first moment

-- What becomes of the last token of a moment.
abbrev pub moment_step : Written → Start → Moment → List TimeToken → Step
moment_step form start moment later =
    record { written = form; behind = behind_moment start moment later; whole = whole_at start moment later }
