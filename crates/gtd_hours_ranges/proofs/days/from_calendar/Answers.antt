use Rattle.gtd_hours_ranges.proofs.DayLemmas.{if_none, none_to}
use Rattle.gtd_hours_ranges.proofs.days.from_calendar.Goals as goal

pub returns-in-Easter-clause-none : goal.returns-in-Easter-clause-none
returns-in-Easter-clause-none c =
    rw c.in-Easter.is (if_none c.easter_of.result (none_to c.args.first c.in-Easter.offset) c.easter_of.ensures.none)
