-- What is given of times, as the meaning of rules takes it.
use Rattle.std.specs.Prelude.{ℕ, Option}
use Rattle.gtd_hours2.specs.Opening.{Clocks}
use Rattle.gtd_hours2.specs.declared.values.SunEvent.{SunEvent}
use Rattle.gtd_hours2.specs.declared.values.SunEvent.TheVariants as event
use Rattle.gtd_hours_plain2.specs.declared.given.GivenTimes.{GivenTimes}
use Rattle.gtd_hours_plain2.specs.Numbers.{given_or}

abbrev pub event_minutes : GivenTimes → SunEvent → Option ℕ
event_minutes g event.Sunrise = g.sunrise
event_minutes g event.Sunset = g.sunset
event_minutes g event.Dawn = g.dawn
event_minutes g event.Dusk = g.dusk

-- Where nothing is given, an event and an open end are at 00:00, and a point is a minute long. Rules that need what is not given
-- have a fault.
abbrev pub clocks_of : GivenTimes → Clocks
clocks_of g = record {
  event = λ e. given_or 0 (event_minutes g e);
  open_end = given_or 0 g.open_end;
  points = given_or 1 g.points;
}
