-- A value has its parts in one way.
use Rattle.gtd_conditional_values.specs.facts.OneReading.{one_cut}
use Rattle.gtd_conditional_values.proofs.laws.parts_once.Goals as goal

pub returns : goal.returns
returns c = record { once = one_cut }
