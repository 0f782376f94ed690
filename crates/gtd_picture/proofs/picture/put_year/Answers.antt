-- The days of the year are within the calendar, and as many as the year is long.
use Rattle.std.proofs.Common.{rules, ◌≡◌, ◌∙◌, FitsSigned, to_z, of_z, w64, to_z-of_z}
use Rattle.std.specs.Prelude.{pos}
use Rattle.gtd_calendar.specs.Calendar.{first_day}
use Rattle.gtd_calendar.specs.facts.YearDays.{next_year, year_horizon}
use Rattle.gtd_picture.proofs.picture.put_year.Goals as goal

pub put_days-requires-clause-not_early : goal.put_days-requires-clause-not_early
put_days-requires-clause-not_early g c =
    let fits : FitsSigned w64 c.new_year.result = search rules in
    let first : to_z w64 (of_z w64 c.new_year.result) ≡ first_day (pos c.args.year) = to_z-of_z fits ∙ c.new_year.ensures.day in
    rw first (year_horizon c.args.year c.requires.year).1

pub put_days-requires-clause-not_late : goal.put_days-requires-clause-not_late
put_days-requires-clause-not_late g c =
    let fits : FitsSigned w64 c.new_year.result = search rules in
    let first : to_z w64 (of_z w64 c.new_year.result) ≡ first_day (pos c.args.year) = to_z-of_z fits ∙ c.new_year.ensures.day in
    let late = (year_horizon c.args.year c.requires.year).2 in
    let next = next_year c.args.year in
    let long = c.length_of_year.ensures.value in
    rw (first, long, ← next) late

pub returns-clause-puts : goal.returns-clause-puts
returns-clause-puts g c =
    let fits : FitsSigned w64 c.new_year.result = search rules in
    let first : to_z w64 (of_z w64 c.new_year.result) ≡ first_day (pos c.args.year) = to_z-of_z fits ∙ c.new_year.ensures.day in
    let put = c.put_days.ensures.puts in
    (put.0, rw (first, c.length_of_year.ensures.value) at put.1, rw first at put.2)
