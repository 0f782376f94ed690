use Rattle.gtd_hours_ranges.proofs.DayLemmas.{if_none, none_from}
use Rattle.gtd_hours_ranges.proofs.days.yearly_of.Goals as goal

pub returns-in-Easter-clause-none : goal.returns-in-Easter-clause-none
returns-in-Easter-clause-none c =
    rw c.in-Easter.is (if_none c.easter_of.result (none_from c.in-Easter.offset c.args.last) c.easter_of.ensures.none)
