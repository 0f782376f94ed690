-- The exit status of a refusal, and the file that it is about.
use Rattle.std.specs.Prelude.{ℕ, string_bytes}
use Rattle.gtd_ask.specs.declared.fault.QuestionFault.{QuestionFault}
use Rattle.gtd_ask.specs.declared.fault.QuestionFault.TheVariants as question
use Rattle.gtd_records.specs.declared.fault.RecordFault.{RecordFault}
use Rattle.gtd_records.specs.declared.fault.RecordFault.TheVariants as records
use Rattle.gtdesk_plans.specs.Arguments.{Text}
use Rattle.gtdesk_words.specs.Statuses.{words_status}
use Rattle.gtdesk_plans.specs.declared.commands.conditions.ConditionsPlan.{ConditionsPlan}
use Rattle.gtdesk_plans.specs.declared.commands.diff.DiffPlan.{DiffPlan}
use Rattle.gtdesk_tool.specs.declared.refusal.Refusal.{Refusal}
use Rattle.gtdesk_tool.specs.declared.refusal.Refusal.TheVariants as refusal
use Rattle.gtdesk_tool.specs.declared.refusal.RunRefusal.{RunRefusal}
use Rattle.gtdesk_tool.specs.declared.refusal.RunRefusal.TheVariants as run

-- 1 if the input is refused, 2 for usage, 3 if opening, reading, writing or memory failed.
abbrev pub records_status : RecordFault → ℕ
records_status records.ReadFault = 3
records_status records.Endless = 3
records_status records.NoMemory = 3
records_status why = 1

abbrev pub questions_status : QuestionFault → ℕ
questions_status question.ReadFault = 3
questions_status question.Endless = 3
questions_status question.NoMemory = 3
questions_status why = 1

abbrev pub run_status : RunRefusal → ℕ
run_status (run.Word why) = 1
run_status run.NoHours = 1
run_status (run.NoDomain why) = 1
run_status run.NoElement = 1
run_status run.Crowded = 1
run_status (run.Records why) = records_status why
run_status run.Open = 3
run_status (run.Old why) = records_status why
run_status run.OldOpen = 3
run_status (run.Means why) = records_status why
run_status run.MeansOpen = 3
run_status (run.TooManyRows rows) = 1
run_status (run.Questions why) = questions_status why
run_status run.Write = 3
run_status run.Memory = 3

abbrev pub status_of : Refusal → ℕ
status_of (refusal.Words why) = words_status why
status_of (refusal.Run why) = run_status why

-- The path of the one of two files that a refusal is about: the old one, if it is not opened or not read.
abbrev pub refused_file : RunRefusal → DiffPlan → Text
refused_file (run.Old why) p = string_bytes p.old
refused_file run.OldOpen p = string_bytes p.old
refused_file other p = string_bytes p.new

-- The path of the one of the files of `conditions` that a refusal is about: the table, if it is not opened or not read.
abbrev pub refused_table : RunRefusal → ConditionsPlan → Text
refused_table (run.Means why) p = string_bytes p.means
refused_table run.MeansOpen p = string_bytes p.means
refused_table other p = string_bytes p.tags
