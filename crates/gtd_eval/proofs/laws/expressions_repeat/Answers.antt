-- Expressions repeat with their basic domains, which repeat after 400 years if no start gives a year.
use Rattle.gtd_eval.specs.facts.Repeats.{tree-repeats}
use Rattle.gtd_eval.proofs.laws.expressions_repeat.Goals as goal

pub returns : goal.returns
returns c = record { repeats = tree-repeats }
