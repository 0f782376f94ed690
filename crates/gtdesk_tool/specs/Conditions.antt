-- What the command `conditions` prints, and how it ends.
use Rattle.std.specs.Prelude.{◌≡◌, ℕ, ◌+◌, Bool, List, Option, Result, Ok, Err, IsErrOf, IsTrue, OnOk, string_bytes}
use Rattle.gtd_conditional_file.specs.Run.{HasConverted, TwoPaths, lines_of}
use Rattle.gtd_conditional_file.specs.Warned.{IsWarned}
use Rattle.gtd_conditional_file.specs.declared.converted.Converted.{Converted}
use Rattle.gtd_conditional_file.specs.declared.unconverted.Unconverted.{Unconverted}
use Rattle.gtd_conditional_file.specs.declared.unconverted.Unconverted.TheVariants as run
use Rattle.gtd_hours_options.specs.Readings.{HowRead}
use Rattle.gtd_hours_options.specs.declared.options.Options.{Options}
use Rattle.gtd_records.specs.declared.fault.RecordFault.TheVariants as records
use Rattle.gtdesk_plans.specs.declared.commands.conditions.ConditionsPlan.{ConditionsPlan}
use Rattle.gtdesk_tool.specs.Telling.{IsUntold, Telling, Told, ToldIfSome}
use Rattle.gtdesk_tool.specs.TextHours.{manner_in}
use Rattle.gtdesk_tool.specs.declared.ending.Ending.{Ending}
use Rattle.gtdesk_tool.specs.declared.ending.Ending.TheVariants as ending
use Rattle.gtdesk_tool.specs.declared.refusal.RunRefusal.{RunRefusal}
use Rattle.gtdesk_tool.specs.declared.refusal.RunRefusal.TheVariants as refusal

-- The answer of `conditions`, from that of its run.
abbrev pub conditions_outcome : Result ℕ Unconverted → Result Ending RunRefusal
conditions_outcome (Ok lines) = Ok ending.Done
conditions_outcome (Err (run.Faults list)) = Ok ending.FaultsListed
conditions_outcome (Err (run.TooManyRows rows)) = Err (refusal.TooManyRows rows)
conditions_outcome (Err run.MeansReadFault) = Err (refusal.Means records.ReadFault)
conditions_outcome (Err run.MeansEndless) = Err (refusal.Means records.Endless)
conditions_outcome (Err run.TagsReadFault) = Err (refusal.Records records.ReadFault)
conditions_outcome (Err run.TagsEndless) = Err (refusal.Records records.Endless)
conditions_outcome (Err (run.WriteFault written)) = Err refusal.Write
conditions_outcome (Err (run.NoMemory written)) = Err refusal.Memory

-- What the output for errors took for the answer of the run: the warnings, if there are any; or the list of faults.
abbrev pub IsAnswerTold : Telling → Result Converted Unconverted → Type 0
IsAnswerTold errors (Ok done) = ToldIfSome errors done.warnings.items
IsAnswerTold errors (Err (run.Faults list)) = Told errors (string_bytes list)
IsAnswerTold errors other = IsUntold errors

-- The paths of the files.
abbrev pub paths_of_plan : ConditionsPlan → TwoPaths
paths_of_plan plan = record { tags = string_bytes plan.tags; means = string_bytes plan.means }

-- how the hours in conditions are read
abbrev pub hours_of_plan : ConditionsPlan → Options → HowRead
hours_of_plan plan options = record { manner = manner_in plan.options; options = options }

-- The run of `conditions` had an answer, and all that the run promises for this answer holds.
pub record RanConditions (plan : ConditionsPlan) (options : Options) (tags means before after : Option (List ℕ))
    (tags_silent means_silent ended : Bool) (errors : Telling) (result : Result Ending RunRefusal) : Type 0 where
  pub answer : Result Converted Unconverted
  pub outcome : result ≡ conditions_outcome (lines_of answer)
  pub converted : HasConverted (hours_of_plan plan options) (paths_of_plan plan) means tags before after (lines_of answer)
  pub warned : IsWarned (hours_of_plan plan options) (paths_of_plan plan) means tags answer
  pub told : IsAnswerTold errors answer
  pub whole : OnOk answer (IsTrue ended)
  pub tags_endless : IsErrOf answer run.TagsEndless → IsTrue tags_silent
  pub means_endless : IsErrOf answer run.MeansEndless → IsTrue means_silent

-- one more failure of the table's input exactly if the refusal is that it failed
abbrev pub failures_after_means : Result Ending RunRefusal → ℕ → ℕ
failures_after_means (Err (refusal.Means records.ReadFault)) count = count + 1
failures_after_means result count = count
