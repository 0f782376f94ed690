-- What becomes of each token of a text: a table of what stands behind the tokens so far.
use Rattle.std.specs.Prelude.{ℕ, ◌&&◌, nat_le, nat_lt, not, Bool, true, false, List, [], ◌∷◌, ℤ, pos, neg_ℤ}
use Rattle.std.specs.Prelude.{Option, Some, None, if◌then◌else◌}
use Rattle.gtd_hours_grammar.specs.declared.fault.FaultKind.{FaultKind}
use Rattle.gtd_hours_grammar.specs.declared.fault.FaultKind.TheVariants as fault
use Rattle.gtd_hours_times.specs.declared.behind.Behind.{Behind}
use Rattle.gtd_hours_times.specs.declared.behind.Behind.TheVariants as behind
use Rattle.gtd_hours_times.specs.declared.behind.Start.{Start}
use Rattle.gtd_hours_times.specs.declared.behind.Step.{Step}
use Rattle.gtd_hours_times.specs.declared.behind.Written.{Written}
use Rattle.gtd_hours_times.specs.declared.behind.Written.TheVariants as written
use Rattle.gtd_hours_times.specs.declared.moment.Event.{Event}
use Rattle.gtd_hours_times.specs.declared.moment.Moment.{Moment}
use Rattle.gtd_hours_times.specs.declared.moment.TimeForm.{TimeForm}
use Rattle.gtd_hours_times.specs.declared.times.TimeKind.{TimeKind}
use Rattle.gtd_hours_times.specs.declared.times.TimeKind.TheVariants as kind
use Rattle.gtd_hours_times.specs.declared.times.TimeToken.{TimeToken}
use Rattle.gtd_hours_times.specs.Forms.{begins_event, closed_form, event_form, is_plus, moment_step, opened_form, time_form}
use Rattle.gtd_hours_times.specs.Forms.{time_minutes, time_moment}

abbrev pub step_to : Written → Behind → Step
step_to form b = record { written = form; behind = b; whole = None }

abbrev pub step_with : Written → TimeForm → Step
step_with form whole = record { written = form; behind = behind.Whole; whole = Some whole }

-- A token that cannot stand where it does.
abbrev pub misfit : FaultKind → Step
misfit k = step_to (written.Misfit k) behind.Free

-- The same, where another token was to go on with a form.
abbrev pub misfit_of : TimeKind → Step
misfit_of kind.Unread = misfit fault.Unsupported
misfit_of kind.Plus = misfit fault.Unsupported
misfit_of k = misfit fault.Unexpected

-- ---- where a moment may begin

abbrev pub opening_step : Start → List TimeToken → Option Step
opening_step start later =
    if not (begins_event later) then None else Some (step_to (opened_form start) (behind.Opened start))

abbrev pub event_moment : Event → ℤ → ℕ → Moment
event_moment e minutes place = record { event = Some e; minutes = minutes; place = place }

abbrev pub front_by : TimeKind → Start → ℕ → List TimeToken → Option Step
front_by (kind.Time hour minute) start place later =
    Some (moment_step (time_form start hour minute later) start (time_moment place hour minute) later)
front_by (kind.Event e) start place later =
    Some (moment_step (event_form start later) start (event_moment e (pos 0) place) later)
front_by kind.Opening start place later = opening_step start later
front_by k start place later = None

-- A token with which a moment begins: a time, an event, or a parenthesis directly before an event.
abbrev pub moment_front : Start → TimeToken → List TimeToken → Option Step
moment_front start token later = front_by token.kind start token.from later

abbrev pub or_step : Option Step → Step → Step
or_step None other = other
or_step (Some step) other = step

-- A token outside of forms, with which no moment begins.
abbrev pub unread_step : TimeKind → Step
unread_step kind.Opening = misfit fault.Unexpected
unread_step kind.Closing = misfit fault.Unexpected
unread_step k = step_to written.Kept behind.Free

abbrev pub free_step : TimeToken → List TimeToken → Step
free_step token later =
    or_step (moment_front (record { from = token.from; first = None }) token later) (unread_step token.kind)

-- Directly behind a form no plus stands.
abbrev pub whole_step : TimeToken → List TimeToken → Step
whole_step token later = if is_plus token.kind then misfit fault.Unexpected else free_step token later

abbrev pub dashed_step : ℕ → Moment → TimeToken → List TimeToken → Step
dashed_step from begin token later =
    or_step (moment_front (record { from = from; first = Some begin }) token later) (misfit_of token.kind)

-- ---- in parentheses

abbrev pub opened_by_kind : TimeKind → Start → ℕ → Step
opened_by_kind (kind.Event e) start place = step_to written.Nothing (behind.Named start e place)
opened_by_kind k start place = misfit_of k

abbrev pub opened_step : Start → TimeToken → Step
opened_step start token = opened_by_kind token.kind start token.from

abbrev pub named_step : Start → Event → ℕ → TimeKind → Step
named_step start e place kind.Plus = step_to written.Nothing (behind.Signed start e place false)
named_step start e place kind.Dash = step_to written.Nothing (behind.Signed start e place true)
named_step start e place k = misfit_of k

abbrev pub offset_minutes : Bool → ℕ → ℤ
offset_minutes back minutes = if back then neg_ℤ (pos minutes) else pos minutes

-- The time in parentheses has minutes below 60, and is at most 24:00.
abbrev pub offset_step : Start → Moment → ℕ → ℕ → Step
offset_step start moment hour minute =
    if nat_lt minute 60 && nat_le (time_minutes hour minute) 1440
    then step_to written.Nothing (behind.Moved start moment)
    else misfit fault.Range

-- A plus directly behind a plus is unexpected.
abbrev pub signed_misfit : Bool → TimeKind → Step
signed_misfit back k = if is_plus k && not back then misfit fault.Unexpected else misfit_of k

abbrev pub signed_step : Start → Event → ℕ → Bool → TimeKind → Step
signed_step start e place back (kind.Time hour minute) =
    offset_step start (event_moment e (offset_minutes back (time_minutes hour minute)) place) hour minute
signed_step start e place back k = signed_misfit back k

abbrev pub moved_step : Start → Moment → TimeKind → List TimeToken → Step
moved_step start moment kind.Closing later = moment_step (closed_form start later) start moment later
moved_step start moment k later = misfit_of k

-- ---- behind moments

abbrev pub open_form : ℕ → Moment → Option Moment → ℕ → TimeForm
open_form from begin last sign =
    record { from = from; begin = begin; last = last; is_open = true; step = None; sign = sign }

abbrev pub begun_by : TimeKind → ℕ → Moment → ℕ → Step
begun_by kind.Plus from begin sign = step_with written.ToMidnight (open_form from begin None sign)
begun_by kind.Dash from begin sign = step_to written.Dash (behind.Dashed from begin)
begun_by k from begin sign = misfit_of k

abbrev pub begun_step : ℕ → Moment → TimeToken → Step
begun_step from begin token = begun_by token.kind from begin token.from

-- A slash with which the text ends leaves it incomplete, as a comma does.
abbrev pub slash_form : List TimeToken → Written
slash_form [] = written.Comma
slash_form (t ∷ ts) = written.Nothing

-- Points from one moment to another, without their step.
abbrev pub points_form : ℕ → Moment → Moment → ℕ → TimeForm
points_form from begin last sign =
    record { from = from; begin = begin; last = Some last; is_open = false; step = None; sign = sign }

abbrev pub ranged_by : TimeKind → ℕ → Moment → Moment → ℕ → List TimeToken → Step
ranged_by kind.Plus from begin last sign later = step_with written.Nothing (open_form from begin (Some last) sign)
ranged_by kind.Slash from begin last sign later =
    step_to (slash_form later) (behind.Slashed (points_form from begin last sign))
ranged_by k from begin last sign later = misfit_of k

abbrev pub ranged_step : ℕ → Moment → Moment → TimeToken → List TimeToken → Step
ranged_step from begin last token later = ranged_by token.kind from begin last token.from later

abbrev pub step_step : Bool → TimeForm → Step
step_step is form = if is then step_with written.Nothing form else misfit fault.Range

abbrev pub is_step : ℕ → Bool
is_step minutes = nat_le 1 minutes && nat_le minutes 1440

abbrev pub with_step : TimeForm → ℕ → TimeForm
with_step form minutes = record {
  from = form.from;
  begin = form.begin;
  last = form.last;
  is_open = form.is_open;
  step = Some minutes;
  sign = form.sign;
}

-- A step is a number of minutes, or a time, whose minutes are below 60.
abbrev pub slashed_step : TimeForm → TimeKind → Step
slashed_step form (kind.Number minutes) = step_step (is_step minutes) (with_step form minutes)
slashed_step form (kind.Time hour minute) =
    step_step (nat_lt minute 60 && is_step (time_minutes hour minute)) (with_step form (time_minutes hour minute))
slashed_step form k = misfit_of k

-- ---- all of it

abbrev pub step_of : Behind → TimeToken → List TimeToken → Step
step_of behind.Free token later = free_step token later
step_of behind.Whole token later = whole_step token later
step_of (behind.Opened start) token later = opened_step start token
step_of (behind.Named start e place) token later = named_step start e place token.kind
step_of (behind.Signed start e place back) token later = signed_step start e place back token.kind
step_of (behind.Moved start moment) token later = moved_step start moment token.kind later
step_of (behind.Begun from begin) token later = begun_step from begin token
step_of (behind.Dashed from begin) token later = dashed_step from begin token later
step_of (behind.Ranged from begin last) token later = ranged_step from begin last token later
step_of (behind.Slashed form) token later = slashed_step form token.kind
