-- Minutes of the day, with what is given for events.
use Rattle.std.specs.Prelude.{ℕ, ◌+◌, ◌-◌, nat_lt, Option, Some, None, ℤ, pos, negsuc, ◌+ℤ◌, if◌then◌else◌}
use Rattle.gtd_hours_times.specs.declared.moment.Event.{Event}
use Rattle.gtd_hours_times.specs.declared.moment.Event.TheVariants as event
use Rattle.gtd_hours_times.specs.declared.moment.Moment.{Moment}
use Rattle.gtd_hours_moments.specs.declared.clocks.Clocks.{Clocks}
use Rattle.gtd_hours_moments.specs.Options.{given_or}

abbrev pub event_minutes : Clocks → Event → Option ℕ
event_minutes clocks event.Sunrise = clocks.sunrise
event_minutes clocks event.Sunset = clocks.sunset
event_minutes clocks event.Dawn = clocks.dawn
event_minutes clocks event.Dusk = clocks.dusk

-- What is given for a moment: nothing has to be for a time.
abbrev pub base_of : Clocks → Option Event → Option ℕ
base_of clocks None = Some 0
base_of clocks (Some e) = event_minutes clocks e

-- The natural number that a whole number is.
abbrev pub natural : ℤ → Option ℕ
natural (pos n) = Some n
natural (negsuc n) = None

-- So many minutes after another minute, or before it; none is before 00:00.
abbrev pub minute_after : ℕ → ℤ → Option ℕ
minute_after base minutes = natural (pos base +ℤ minutes)

abbrev pub minute_from : Option ℕ → ℤ → ℕ
minute_from None minutes = 0
minute_from (Some base) minutes = given_or 0 (minute_after base minutes)

-- The minute of a moment, or 0 where it is not known.
abbrev pub minute_at : Clocks → Moment → ℕ
minute_at clocks moment = minute_from (base_of clocks moment.event) moment.minutes

abbrev pub last_minute : Clocks → Option Moment → Option ℕ
last_minute clocks None = None
last_minute clocks (Some moment) = Some (minute_at clocks moment)

-- How long a range lasts: one whose end is not after its beginning ends on the next day, 1440 minutes later.
abbrev pub lasting : ℕ → ℕ → ℕ
lasting begin end = if nat_lt begin end then end - begin else end + 1440 - begin
