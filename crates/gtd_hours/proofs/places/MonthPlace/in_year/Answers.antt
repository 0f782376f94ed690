use Rattle.std.proofs.Common.{rules, refl, pos, FitsSigned, w64, to_z-of_z}
use Rattle.gtd_calendar.specs.Calendar.{IsCalendarDay}
use Rattle.gtd_hours.specs.ComputedPlaces.{end_day}
use Rattle.gtd_hours.specs.declared.places.End.TheVariants.{Place}
use Rattle.gtd_hours.specs.facts.PlaceFacts.{end-is, end-only}
use Rattle.gtd_hours.proofs.places.MonthPlace.in_year.Goals as goal

pub returns-then-is_calendar_day-clause-day : goal.returns-then-is_calendar_day-clause-day
returns-then-is_calendar_day-clause-day c =
    let fits : FitsSigned w64 c.moved_day-day.result = search rules in
    rw (c.date_of.ensures, to_z-of_z fits, c.moved_day-day.ensures.value) (end-is (Place c.args.self) (pos c.args.year) refl)

pub returns-then-is_calendar_day-clause-accepted : goal.returns-then-is_calendar_day-clause-accepted
returns-then-is_calendar_day-clause-accepted c =
    let fits : FitsSigned w64 c.moved_day-day.result = search rules in
    let day = rw (to_z-of_z fits, c.moved_day-day.ensures.value) at
    (c.is_calendar_day.ensures.calendar.0 c.if-is_calendar_day.true) in (
      (λ yes. (end_day (Place c.args.self) (pos c.args.year), end-is (Place c.args.self) (pos c.args.year) refl, day)),
      (λ there. refl),
    )

pub returns-else-is_calendar_day-clause-accepted : goal.returns-else-is_calendar_day-clause-accepted
returns-else-is_calendar_day-clause-accepted c = (
  (λ yes. cc),
  (λ there.
      let fits : FitsSigned w64 c.moved_day-day.result = search rules in
      let same = end-only (Place c.args.self) (pos c.args.year) there.0 there.1 in
      let day : IsCalendarDay (end_day (Place c.args.self) (pos c.args.year)) = rw same at there.2 in
      let yes = c.is_calendar_day.ensures.calendar.1 (rw (to_z-of_z fits, c.moved_day-day.ensures.value) day) in
      cc),
)
