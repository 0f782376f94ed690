-- The second that is given lies in the days that the search looks at, which begin on its own day.
use Rattle.gtd_states.specs.facts.DayFacts.{looks_at}
use Rattle.gtd_states.proofs.change.change_after.Goals as goal

pub next_change-requires : goal.next_change-requires
next_change-requires c = record {
  inside = looks_at c.args.second.0 c.days_from.result.from_day c.days_from.result.to_day c.requires.in_range
      c.days_from.ensures.first c.days_from.ensures.last;
}
