-- What the command `diff` prints, and how it ends.
use Rattle.std.specs.Prelude.{◌≡◌, ◌↔◌, ℕ, ◌+◌, Bool, true, false, List, Option, Result, Ok, Err, IsErrOf, IsTrue, OnOk}
use Rattle.std.specs.Prelude.{if◌then◌else◌, nat_le}
use Rattle.gtd_records.specs.declared.fault.RecordFault.TheVariants as records
use Rattle.gtd_report.specs.Run.{CountsNone, IsVehicleType}
use Rattle.gtd_report.specs.declared.fault.RunFault.TheVariants as run
use Rattle.gtd_changes.specs.Run.{HasComparedIn, HeadlineIn}
use Rattle.gtd_changes.specs.Run as counted
use Rattle.gtd_changes.specs.declared.fault.ChangesFault.{ChangesFault}
use Rattle.gtd_changes.specs.declared.fault.ChangesFault.TheVariants as changes
use Rattle.gtd_changes.specs.declared.form.Form.{Form}
use Rattle.gtd_changes.specs.declared.form.Form.TheVariants as form
use Rattle.gtdesk_tool.specs.Running.{refusal_for}
use Rattle.gtdesk_tool.specs.declared.ending.Ending.{Ending}
use Rattle.gtdesk_tool.specs.declared.ending.Ending.TheVariants as ending
use Rattle.gtdesk_plans.specs.declared.commands.diff.DiffPlan.{DiffPlan}
use Rattle.gtdesk_tool.specs.declared.refusal.RunRefusal.{RunRefusal}
use Rattle.gtdesk_tool.specs.declared.refusal.RunRefusal.TheVariants as refusal

-- The answer of `diff`, from that of its run: there is a difference if there is a line behind the header.
abbrev pub diff_outcome : Result ℕ ChangesFault → Result Ending RunRefusal
diff_outcome (Ok lines) = if nat_le lines 1 then Ok ending.Done else Ok ending.Differ
diff_outcome (Err (changes.Old records.NoMemory)) = Err refusal.Memory
diff_outcome (Err (changes.Old why)) = Err (refusal.Old why)
diff_outcome (Err (changes.Run why)) = Err (refusal_for why)

-- The form that is asked for: a summary has no intervals, and so no rows either.
abbrev pub form_of : Bool → Bool → Form
form_of rows true = form.Summary
form_of true false = form.Rows
form_of false false = form.Intervals

-- The run of `diff` had an answer, and all that the run promises for this answer holds.
pub record RanDiff (plan : DiffPlan) (old new before after : Option (List ℕ)) (old_silent new_silent ended : Bool)
    (result : Result Ending RunRefusal) : Type 0 where
  pub answer : Result ℕ ChangesFault
  pub outcome : result ≡ diff_outcome answer
  pub headline : IsVehicleType plan.vehicle → CountsNone (counted.failures_after_old answer)
      → CountsNone (counted.failures_after_new answer) → CountsNone (counted.failures_after_write answer)
      → HeadlineIn (form_of plan.rows plan.summary) plan.vehicle plan.horizon old new before after answer
  pub stands : HasComparedIn (form_of plan.rows plan.summary) plan.vehicle plan.horizon old new before after answer
  pub whole : OnOk answer (IsTrue ended)
  pub vehicle_range : IsErrOf answer (changes.Run run.VehicleRange) ↔ (IsVehicleType plan.vehicle → ⊥)
  pub year : IsErrOf answer (changes.Run run.YearRange) → ⊥
  pub element : IsErrOf answer (changes.Run run.NoElement) → ⊥
  pub old_endless : IsErrOf answer (changes.Old records.Endless) → IsTrue old_silent
  pub new_endless : IsErrOf answer (changes.Run (run.Records records.Endless)) → IsTrue new_silent

-- one more failure of the old file's input exactly if the refusal is that it failed
abbrev pub failures_after_old : Result Ending RunRefusal → ℕ → ℕ
failures_after_old (Err (refusal.Old records.ReadFault)) count = count + 1
failures_after_old result count = count

-- the same of the new file's
abbrev pub failures_after_new : Result Ending RunRefusal → ℕ → ℕ
failures_after_new (Err (refusal.Records records.ReadFault)) count = count + 1
failures_after_new result count = count
