-- What the headline says of the lines and what a schedule is are the same, in both directions.
use Rattle.gtd_schedule.specs.facts.ShownFacts.{shows-schedule}
use Rattle.gtd_schedule.proofs.laws.shown_lines.Goals as goal

pub returns : goal.returns
returns c = record { same = shows-schedule }
