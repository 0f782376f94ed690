-- The date that is worked out exists in the year, is the day of the definition of Easter, and lies in the calendar.
use Rattle.std.proofs.Common.{rules, ◌≡◌, ◌∙◌, ap, refl, pos, FitsSigned, to_z, of_z, w64, to_z-of_z}
use Rattle.gtd_hours2.specs.Days.{after_equinox}
use Rattle.gtd_hours_text2.proofs.CalendarFacts.{calendar_year, in_calendar}
use Rattle.gtd_hours_text2.proofs.computus.easter.Goals as goal

pub returns-clause-day : goal.returns-clause-day
returns-clause-day c =
    let fits : FitsSigned w64 c.in-Some.day = search rules in
    let fits_year : FitsSigned w64 c.from-2.result = search rules in
    let year : to_z w64 (of_z w64 c.from-2.result) ≡ pos c.args.year = to_z-of_z fits_year ∙ c.from-2.ensures in
    let place : c.after_equinox-place.result ≡ after_equinox c.args.year =
    c.after_equinox-place.ensures.value ∙ ap after_equinox c.from.ensures in
    to_z-of_z fits ∙ c.in-Some.ensures.value ∙ rw (year, place) refl

pub returns-clause-near : goal.returns-clause-near
returns-clause-near c =
    let fits : FitsSigned w64 c.in-Some.day = search rules in
    let fits_year : FitsSigned w64 c.from-2.result = search rules in
    let year : to_z w64 (of_z w64 c.from-2.result) ≡ pos c.args.year = to_z-of_z fits_year ∙ c.from-2.ensures in
    rw (to_z-of_z fits) (in_calendar c.in-Some.day (pos c.args.year) _ _
    (calendar_year c.args.year c.requires.0 c.requires.1) (rw year at c.in-Some.ensures.date))
