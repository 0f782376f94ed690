-- The lines below an element and those from it on, one after the other, are the lines of all.
use Rattle.gtd_schedule.proofs.SplitFacts.{schedule_in_parts}
use Rattle.gtd_schedule.proofs.laws.schedule_in_parts.Goals as goal

pub returns : goal.returns
returns c = record { parts = schedule_in_parts }
