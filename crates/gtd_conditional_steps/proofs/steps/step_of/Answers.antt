-- The step speaks of the types for which the terms hold, at the seconds of their hours.
use Rattle.gtd_conditional_steps.proofs.TermLemmas.{step_applies}
use Rattle.gtd_conditional_steps.proofs.steps.step_of.Goals as goal

pub returns : goal.returns
returns c = record {
  access = c.access_in.ensures.access;
  applies =
      step_applies c.args.asked.means.now.rows.items c.args.types.now c.args.part.now.terms.items c.types_for.result
      c.in_ok-hours.hours (rw c.as_slice-2.ensures.value at c.types_for.ensures)
      (rw c.as_slice.ensures.value at c.in_ok-hours.ensures);
}
