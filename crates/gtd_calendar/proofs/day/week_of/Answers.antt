-- A Thursday in the date's year gives the week by its place, and near the ends of years `jiff` gives the same.
use Rattle.std.proofs.Common.{arith, rules, ◌≡◌, ◌∙◌, ◌/◌, ℕ, pos, to_z, of_z, to_z-of_z, FitsSigned, w8, w16, unsigned_abs}
use Rattle.jiff.specs.Week.{plain_week}
use Rattle.jiff.proofs.SpanFacts.{signed_arith}
use Rattle.jiff_core.proofs.SignedLemmas.{one_part, signed_casts}
use Rattle.gtd_calendar.specs.facts.JiffLemmas.{week-theirs, week-in_year}
use Rattle.gtd_calendar.proofs.day.week_of.Goals as goal

pub returns-then-place-lt0-clause-year : goal.returns-then-place-lt0-clause-year
returns-then-place-lt0-clause-year c =
    let is = week-theirs (plain_week c.iso_week_date-week.result) _ c.iso_week_date-week.ensures in
    let fits : FitsSigned w16 c.year.result = search rules in
    to_z-of_z fits ∙ c.year.ensures ∙ is.0

pub returns-then-place-lt0-clause-week : goal.returns-then-place-lt0-clause-week
returns-then-place-lt0-clause-week c =
    let is = week-theirs (plain_week c.iso_week_date-week.result) _ c.iso_week_date-week.ensures in
    let fits : FitsSigned w8 c.week.result = search rules in
    rw (to_z-of_z fits, c.week.ensures) is.1

pub returns-clause-year : goal.returns-clause-year
returns-clause-year c =
    let fits : FitsSigned w16 c.year-2.result = search rules in
    let place : ℕ = unsigned_abs c.thursday_place-place.result in
    let at : pos place ≡ c.thursday_place-place.result =
    omega (arith, signed_arith, one_part c.thursday_place-place.result) in
    let is = week-in_year c.args.date c.args.weekday place c.requires.weekday
    (at ∙ c.thursday_place-place.ensures.value) (omega (arith, signed_arith)) in
    to_z-of_z fits ∙ c.year-2.ensures ∙ is.0

pub returns-clause-week : goal.returns-clause-week
returns-clause-week c =
    let place : ℕ = unsigned_abs c.thursday_place-place.result in
    let at : pos place ≡ c.thursday_place-place.result =
    omega (arith, signed_arith, one_part c.thursday_place-place.result) in
    let is = week-in_year c.args.date c.args.weekday place c.requires.weekday
    (at ∙ c.thursday_place-place.ensures.value) (omega (arith, signed_arith)) in
    let same : to_z w16 (of_z w16 c.thursday_place-place.result) ≡ pos place = omega (arith, signed_arith) in
    let small : to_z w16 (place / 7) ≡ pos (place / 7) = omega (arith, signed_casts) in
    rw (same, small) is.1
