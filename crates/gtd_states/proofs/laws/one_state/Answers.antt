-- Each element has a state at each second that a horizon may have, and two states of it are equal.
use Rattle.gtd_states.specs.facts.OneState.{one_state}
use Rattle.gtd_states.specs.facts.SomeState.{some_state}
use Rattle.gtd_states.proofs.laws.one_state.Goals as goal

pub returns : goal.returns
returns c = record { has = some_state; only = one_state }
