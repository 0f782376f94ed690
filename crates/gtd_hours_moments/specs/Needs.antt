-- What has to be given for forms of times, and which of them last too long: the first from left to right.
use Rattle.std.specs.Prelude.{ℕ, ◌&&◌, not, nat_le, nat_lt, Bool, false, List, [], ◌∷◌, is_some, is_none}
use Rattle.std.specs.Prelude.{Option, Some, None, if◌then◌else◌}
use Rattle.std.specs.Option.{option_or}
use Rattle.gtd_hours_times.specs.declared.moment.Event.{Event}
use Rattle.gtd_hours_times.specs.declared.moment.Moment.{Moment}
use Rattle.gtd_hours_times.specs.declared.moment.TimeForm.{TimeForm}
use Rattle.gtd_hours_moments.specs.declared.clocks.Clocks.{Clocks}
use Rattle.gtd_hours_moments.specs.declared.needs.Need.{Need}
use Rattle.gtd_hours_moments.specs.declared.needs.NeedKind.{NeedKind}
use Rattle.gtd_hours_moments.specs.declared.needs.NeedKind.TheVariants as kind
use Rattle.gtd_hours_moments.specs.Minutes.{event_minutes, lasting, minute_after, minute_at}

abbrev pub need_at : NeedKind → ℕ → Option Need
need_at k place = Some (record { kind = k; place = place })

-- ---- of a moment: an event is given, and the moment is at most so late

abbrev pub is_within : ℕ → Option ℕ → Bool
is_within most None = false
is_within most (Some minute) = nat_le minute most

abbrev pub range_need : ℕ → Option ℕ → ℕ → Option Need
range_need most minute place = if is_within most minute then None else need_at kind.Range place

abbrev pub event_need : ℕ → Option ℕ → Moment → Option Need
event_need most None moment = need_at kind.SunTime moment.place
event_need most (Some base) moment = range_need most (minute_after base moment.minutes) moment.place

abbrev pub need_by : ℕ → Option Event → Moment → Clocks → Option Need
need_by most None moment clocks = None
need_by most (Some e) moment clocks = event_need most (event_minutes clocks e) moment

abbrev pub moment_need : ℕ → Moment → Clocks → Option Need
moment_need most moment clocks = need_by most moment.event moment clocks

-- A second moment is at most 24:00.
abbrev pub last_need : Option Moment → Clocks → Option Need
last_need None clocks = None
last_need (Some moment) clocks = moment_need 1440 moment clocks

-- ---- of a form

-- A single moment is a point.
abbrev pub point_need : TimeForm → Clocks → Option Need
point_need form clocks =
    if is_none form.last && not form.is_open && is_none clocks.points then need_at kind.Point form.begin.place else None

abbrev pub sign_need : TimeForm → Clocks → Option Need
sign_need form clocks =
    if form.is_open && is_none clocks.open_end then need_at kind.OpenEnd form.sign
    else if is_some form.step && is_none clocks.points then need_at kind.Point form.sign
    else None

-- A first moment is at most 23:59.
abbrev pub form_need : TimeForm → Clocks → Option Need
form_need form clocks =
    option_or (point_need form clocks)
    (option_or (moment_need 1439 form.begin clocks) (option_or (last_need form.last clocks) (sign_need form clocks)))

abbrev pub first_need : List TimeForm → Clocks → Option Need
first_need [] clocks = None
first_need (form ∷ forms) clocks = option_or (form_need form clocks) (first_need forms clocks)

-- ---- ranges of more than 24 hours

abbrev pub last_too_long : ℕ → Option Moment → Clocks → Option Need
last_too_long begin None clocks = None
last_too_long begin (Some moment) clocks =
    if nat_lt 1440 (lasting begin (minute_at clocks moment)) then need_at kind.Range moment.place else None

abbrev pub open_too_long : ℕ → Option ℕ → ℕ → Option Need
open_too_long begin None sign = None
open_too_long begin (Some end) sign = if nat_lt 1440 (lasting begin end) then need_at kind.OpenEnd sign else None

abbrev pub form_too_long : TimeForm → Clocks → Option Need
form_too_long form clocks =
    option_or (last_too_long (minute_at clocks form.begin) form.last clocks)
    (if form.is_open then open_too_long (minute_at clocks form.begin) clocks.open_end form.sign else None)

abbrev pub too_long : List TimeForm → Clocks → Option Need
too_long [] clocks = None
too_long (form ∷ forms) clocks = option_or (form_too_long form clocks) (too_long forms clocks)
