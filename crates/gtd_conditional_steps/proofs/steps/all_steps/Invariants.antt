-- The steps of the rows before this one; the modes of tags come one after another.
use Rattle.std.proofs.Common.{◌≡◌, ◌≤◌, ◌-◌}
use Rattle.gtd_conditional_steps.specs.Modes.{next_mode}
use Rattle.gtd_conditional_steps.specs.Sayings.{said_before}
use Rattle.gtd_conditional_steps.specs.Steps.{AreStepsOf}
use Rattle.gtd_conditional_steps.proofs.ModeFacts.{AreFrom, SayTheRest}
use Rattle.gtd_conditional_steps.proofs.steps.all_steps.Given as goal

abbrev pub invariant-loop-mode : goal.invariant-loop-mode
invariant-loop-mode l = record {
  low : l.mode ≤ l.end;
  next : l.mode ≡ next_mode l.end l.rest;
  order : AreFrom l.mode l.rest;
  left : SayTheRest l.mode l.rest l.tags;
  steps : AreStepsOf l.asked.means.now.rows.items l.asked.direction
      (said_before l.mode l.subject l.asked.means.now.rows.items l.asked.direction l.tags) l.steps.items;
}

abbrev pub decreases-loop-mode : goal.decreases-loop-mode
decreases-loop-mode l = l.end - l.mode
