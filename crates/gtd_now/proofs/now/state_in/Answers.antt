-- What is known of the element is right, since what is known of all is, and it is of this element.
use Rattle.std.proofs.Common.{subst}
use Rattle.std.specs.Prelude.{IfOk}
use Rattle.gtd_rows.specs.declared.direction.DirectedElement.{DirectedElement}
use Rattle.gtd_states.specs.States.{IsState, state_of}
use Rattle.gtd_states.specs.facts.KnownFacts.{right_listed}
use Rattle.gtd_now.proofs.now.state_in.Goals as goal

pub state_by-requires-clause-right : goal.state_by-requires-clause-right
state_by-requires-clause-right c =
    let asked = c.args.view.now.asked in
    right_listed c.args.view.now.found.now asked.vehicle asked.second.0 c.args.view.now.known.now c.in-Some.known c.requires.right
    c.in-Some.ensures.listed

pub returns-in-Some : goal.returns-in-Some
returns-in-Some c =
    let asked = c.args.view.now.asked in record {
      state = subst (λ (at : DirectedElement). IfOk c.state_by.result (λ state. IsState c.args.view.now.found.now at.element
          at.direction asked.vehicle asked.second.0 (state_of state))) c.in-Some.ensures.same c.state_by.ensures.state;
    }
