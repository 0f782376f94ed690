use Rattle.std.proofs.Common.{◌∙◌, subst}
use Rattle.gtd_changes.specs.Run.{HasComparedIn, HeadlineIn}
use Rattle.gtd_changes.specs.declared.form.Form.{Form}
use Rattle.gtdesk_tool.specs.Diff.{failures_after_new, failures_after_old}
use Rattle.gtdesk_tool.specs.Running.{failures_after_write}
use Rattle.gtdesk_tool.proofs.DiffFacts.{diff_new, diff_old, diff_write}
use Rattle.gtdesk_tool.proofs.RunningFacts.{handed_on}
use Rattle.gtdesk_tool.proofs.diff.perform_diff.Goals as goal

-- the run is that of the form that is asked for
pub returns-clause-ran : goal.returns-clause-ran
returns-clause-ran g c =
    let plan = c.args.plan.now in
    let old = g.I.Input.to_come c.args.old.now in
    let new = g.J.Input.to_come c.args.new.now in
    let before = g.O.Output.taken c.args.output.now in
    let after = g.O.Output.taken c.run_changes_in.new.output in
    let answer = c.run_changes_in.result in
    let form = c.form_of.ensures.value in
    let ran = c.run_changes_in.ensures in
    record {
      answer = answer;
      outcome = c.diff_outcome.ensures.value;
      headline = λ vehicle was_read new_read wrote.
          subst (λ (f : Form). HeadlineIn f plan.vehicle plan.horizon old new before after answer) form (ran.headline vehicle
          (ran.old_faults ∙ was_read _) (ran.new_faults ∙ new_read _) (ran.write_faults ∙ wrote _));
      stands = subst (λ (f : Form). HasComparedIn f plan.vehicle plan.horizon old new before after answer) form ran.stands;
      whole = ran.ended;
      vehicle_range = ran.vehicle;
      year = ran.year;
      element = ran.element;
      old_endless = ran.old_endless;
      new_endless = ran.new_endless;
    }

pub returns-clause-old_faults : goal.returns-clause-old_faults
returns-clause-old_faults g c =
    handed_on failures_after_old _ _ _ _ _
    c.run_changes_in.ensures.old_faults (diff_old c.run_changes_in.result _) c.diff_outcome.ensures.value

pub returns-clause-new_faults : goal.returns-clause-new_faults
returns-clause-new_faults g c =
    handed_on failures_after_new _ _ _ _ _
    c.run_changes_in.ensures.new_faults (diff_new c.run_changes_in.result _) c.diff_outcome.ensures.value

pub returns-clause-write_faults : goal.returns-clause-write_faults
returns-clause-write_faults g c =
    handed_on failures_after_write _ _ _ _ _
    c.run_changes_in.ensures.write_faults (diff_write c.run_changes_in.result _) c.diff_outcome.ensures.value
