-- What is written is the entry in the form asked for, if the check has let its length pass.
use Rattle.gtd_now.proofs.Appending.{on_ok}
use Rattle.gtd_now.specs.Now.{IsEntry}
use Rattle.gtd_now.specs.Query.{query_of}
use Rattle.gtd_states.specs.States.{state_of}
use Rattle.gtd_now.proofs.now.write_entry.Goals as goal

pub returns-clause-entry : goal.returns-clause-entry
returns-clause-entry c =
    on_ok c.check_length.result _ (IsEntry c.args.view.now.lines.now c.args.view.now.found.now
    (query_of c.args.view.now.asked) c.args.at.element c.args.at.direction
    c.push_entry.new.line.items)
    (λ short. record {
      state = state_of c.in_ok-state.state;
      is = c.in_ok-state.ensures.state;
      whole = rw (c.clear.ensures.items, c.rows.ensures.rows) at c.in_ok-push_entry.ensures.entry;
    })
    c.check_length.ensures
