-- How points of time, open ends and events of the sun are written.
use Rattle.std.specs.Prelude.{ℕ, ◌==◌, ◌++◌, Bool, List, [], ◌∷◌, Option, Some, None, ℤ}
use Rattle.std.specs.Prelude.{codes, decimal, if◌then◌else◌, unsigned_abs}
use Rattle.std.specs.Int.{is_negative}
use Rattle.gtd_hours_moments.specs.Plain.{clock}
use Rattle.gtd_hours_times.specs.declared.moment.Event.{Event}
use Rattle.gtd_hours_times.specs.declared.moment.Event.TheVariants as event
use Rattle.gtd_hours_times.specs.declared.moment.Moment.{Moment}
use Rattle.gtd_hours_times.specs.declared.moment.TimeForm.{TimeForm}
use Rattle.gtd_hours_writing.specs.Joining.{listed}

abbrev pub event_word : Event → List ℕ
event_word event.Sunrise = codes "sunrise"
event_word event.Sunset = codes "sunset"
event_word event.Dawn = codes "dawn"
event_word event.Dusk = codes "dusk"

abbrev pub sign_text : Bool → List ℕ
sign_text negative = if negative then codes "-" else codes "+"

-- an event, or a time after or before it: `sunset`, `(sunset+01:00)`
abbrev pub event_text : Event → ℤ → List ℕ
event_text e minutes =
    if unsigned_abs minutes == 0 then event_word e
    else (((codes "(" ++ event_word e) ++ sign_text (is_negative minutes)) ++ clock (unsigned_abs minutes)) ++ codes ")"

abbrev pub moment_by : Option Event → ℤ → List ℕ
moment_by None minutes = clock (unsigned_abs minutes)
moment_by (Some e) minutes = event_text e minutes

abbrev pub moment_text : Moment → List ℕ
moment_text moment = moment_by moment.event moment.minutes

-- the second moment of a range
abbrev pub last_text : Option Moment → List ℕ
last_text None = []
last_text (Some moment) = codes "-" ++ moment_text moment

abbrev pub open_text : Bool → List ℕ
open_text is_open = if is_open then codes "+" else []

-- the minutes from point to point
abbrev pub points_text : Option ℕ → List ℕ
points_text None = []
points_text (Some minutes) = codes "/" ++ decimal minutes

-- `08:00-12:00`, `17:00+`, `16:00-21:30+`, `17:30`, `10:00-16:00/30`
abbrev pub form_text : TimeForm → List ℕ
form_text form =
    ((moment_text form.begin ++ last_text form.last) ++ open_text form.is_open) ++ points_text form.step

-- A list with these forms of times behind it.
abbrev pub with_forms : List ℕ → List TimeForm → List ℕ
with_forms text [] = text
with_forms text (x ∷ xs) = with_forms (listed text (form_text x)) xs
