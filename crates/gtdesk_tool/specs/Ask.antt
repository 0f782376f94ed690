-- What the command `ask` prints, and how it ends.
use Rattle.std.specs.Prelude.{◌≡◌, ℕ, ◌+◌, Bool, List, Option, Result, Ok, Err, IsErrOf, IsTrue, OnOk}
use Rattle.gtd_records.specs.declared.fault.RecordFault.TheVariants as records
use Rattle.gtd_report.specs.declared.fault.RunFault.TheVariants as run
use Rattle.gtd_report.specs.Run.{CountsNone}
use Rattle.gtd_ask.specs.Run.{HasAnswered, HeadlineOf, failures_after_asking, failures_after_read, failures_after_write}
use Rattle.gtd_ask.specs.declared.fault.AskFault.{AskFault}
use Rattle.gtd_ask.specs.declared.fault.AskFault.TheVariants as ask
use Rattle.gtd_ask.specs.declared.fault.QuestionFault.TheVariants as question
use Rattle.gtdesk_tool.specs.Running.{refusal_for}
use Rattle.gtdesk_tool.specs.declared.ending.Ending.{Ending}
use Rattle.gtdesk_tool.specs.declared.ending.Ending.TheVariants as ending
use Rattle.gtdesk_tool.specs.declared.refusal.RunRefusal.{RunRefusal}
use Rattle.gtdesk_tool.specs.declared.refusal.RunRefusal.TheVariants as refusal

-- The answer of `ask`, from that of its run.
abbrev pub ask_outcome : Result ℕ AskFault → Result Ending RunRefusal
ask_outcome (Ok lines) = Ok ending.Done
ask_outcome (Err (ask.Questions question.NoMemory)) = Err refusal.Memory
ask_outcome (Err (ask.Questions why)) = Err (refusal.Questions why)
ask_outcome (Err (ask.Run why)) = Err (refusal_for why)

-- The run of `ask` had an answer, and all that the run promises for this answer holds.
pub record RanAsk (questions told before after : Option (List ℕ)) (questions_silent records_silent ended : Bool)
    (result : Result Ending RunRefusal) : Type 0 where
  pub answer : Result ℕ AskFault
  pub outcome : result ≡ ask_outcome answer
  pub headline : CountsNone (failures_after_asking answer) → CountsNone (failures_after_read answer)
      → CountsNone (failures_after_write answer) → HeadlineOf questions told before after answer
  pub stands : HasAnswered questions told before after answer
  pub whole : OnOk answer (IsTrue ended)
  pub vehicle : IsErrOf answer (ask.Run run.VehicleRange) → ⊥
  pub year : IsErrOf answer (ask.Run run.YearRange) → ⊥
  pub element : IsErrOf answer (ask.Run run.NoElement) → ⊥
  pub questions_endless : IsErrOf answer (ask.Questions question.Endless) → IsTrue questions_silent
  pub records_endless : IsErrOf answer (ask.Run (run.Records records.Endless)) → IsTrue records_silent

-- one more failure of the questions' input exactly if the refusal is that it failed
abbrev pub failures_after_questions : Result Ending RunRefusal → ℕ → ℕ
failures_after_questions (Err (refusal.Questions question.ReadFault)) count = count + 1
failures_after_questions result count = count
