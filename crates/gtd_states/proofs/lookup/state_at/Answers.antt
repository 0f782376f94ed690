-- What is found of openness, change and closing rows is the state, and the calendar shows its change.
use Rattle.gtd_records.specs.Closing.{IsOpen}
use Rattle.gtd_states.specs.facts.RowFacts.{shown, state_is}
use Rattle.gtd_states.proofs.lookup.state_at.Goals as goal

pub invariant_of-result : goal.invariant_of-result
invariant_of-result c = record {
  in_calendar = shown (IsOpen c.args.found.now c.args.at.element c.args.at.direction c.args.vehicle) c.args.second.0
      c.in_ok-change.ensures.change.0 c.in_ok-change.change
      c.requires.in_range c.in_ok-change.ensures.change.1 c.in_ok-change.ensures.change.2;
}

pub returns : goal.returns
returns c = record {
  state = state_is c.args.found.now c.args.at.element c.args.at.direction c.args.vehicle c.args.second.0 c.in_ok-rows.rows.items
      c.in_ok-change.change c.in_ok-rows.ensures.rows c.in_ok-change.ensures.change;
}
