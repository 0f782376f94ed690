-- The rows that are found and the change that is known make the state, and the calendar shows the change.
use Rattle.gtd_records.specs.Closing.{IsOpen}
use Rattle.gtd_states.specs.facts.KnownFacts.{found_right}
use Rattle.gtd_states.specs.facts.RowFacts.{shown, state_is}
use Rattle.gtd_states.proofs.known.state_by.Goals as goal

pub invariant_of-result : goal.invariant_of-result
invariant_of-result c =
    let at = c.args.known.at in
    let change = found_right c.args.found.now c.args.vehicle c.args.second.0 at c.args.known.change c.requires.right in
    record {
      in_calendar = shown (IsOpen c.args.found.now at.element at.direction c.args.vehicle) c.args.second.0 change.0
          c.args.known.change c.requires.in_range change.1 change.2;
    }

pub returns : goal.returns
returns c =
    let at = c.args.known.at in
    record {
      state = state_is c.args.found.now at.element at.direction c.args.vehicle c.args.second.0 c.in_ok-rows.rows.items
          c.args.known.change c.in_ok-rows.ensures.rows
          (found_right c.args.found.now c.args.vehicle c.args.second.0 at c.args.known.change c.requires.right);
    }
