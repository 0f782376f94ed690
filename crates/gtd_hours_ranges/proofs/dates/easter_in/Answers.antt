use Rattle.std.proofs.Common.{rules, FitsSigned, w64, to_z-of_z, ◌∙◌}
use Rattle.gtd_hours_ranges.proofs.DayLemmas.{easter-date, easter-none}
use Rattle.gtd_hours_ranges.proofs.dates.easter_in.Goals as goal

pub returns-then-is_calendar_day-clause-kept : goal.returns-then-is_calendar_day-clause-kept
returns-then-is_calendar_day-clause-kept c =
    let fits : FitsSigned w64 c.easter_day-day.result = search rules in
    easter-date c.args.offset c.args.year c.easter_day-day.result c.date_of.result
    (c.is_calendar_year.ensures.0 c.if-not-is_calendar_year.false) c.easter_day-day.ensures
    (c.date_of.ensures.date ∙ to_z-of_z fits)

pub returns-else-is_calendar_day-clause-none : goal.returns-else-is_calendar_day-clause-none
returns-else-is_calendar_day-clause-none c =
    let fits : FitsSigned w64 c.easter_day-day.result = search rules in
    easter-none c.args.offset c.args.year c.easter_day-day.result c.easter_day-day.ensures
    (λ near. let yes = c.is_calendar_day.ensures.calendar.1 (rw (to_z-of_z fits) near) in cc)
