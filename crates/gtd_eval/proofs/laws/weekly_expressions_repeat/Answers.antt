-- Expressions repeat with their basic domains, each of which repeats after 7 days.
use Rattle.gtd_eval.specs.facts.WeekFacts.{tree-weekly}
use Rattle.gtd_eval.proofs.laws.weekly_expressions_repeat.Goals as goal

pub returns : goal.returns
returns c = record { repeats = tree-weekly }
