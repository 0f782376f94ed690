-- The next New Year is at most 366 days away, so their difference fits 16 bits and is the year's length.
use Rattle.std.proofs.Common.{rules, ◌∙◌, pos}
use Rattle.gtd_calendar.specs.Calendar.{year_length}
use Rattle.gtd_calendar.specs.facts.YearDays.{near_cast, next_year, year_length-few}
use Rattle.gtd_calendar.proofs.year.length_of_year.Goals as goal

pub days_from-requires : goal.days_from-requires
days_from-requires c =
    let near = near_cast c.new_year.result c.new_year-2.result _ (year_length (pos c.args.year)) (search rules) (search rules)
    c.new_year.ensures.day (c.new_year-2.ensures.day ∙ next_year c.args.year) (year_length-few (pos c.args.year)) in
    record { order = near.0; near = near.1 }

pub returns : goal.returns
returns c =
    let near = near_cast c.new_year.result c.new_year-2.result _ (year_length (pos c.args.year)) (search rules) (search rules)
    c.new_year.ensures.day (c.new_year-2.ensures.day ∙ next_year c.args.year) (year_length-few (pos c.args.year)) in
    record { value = c.days_from.ensures.value ∙ near.2 }
