-- What a run that answers questions did, by its answer, and the claims about it.
--
-- `questions` and `records` hold the bytes that the inputs still had to give, `before` and `after` those that the output had
-- taken, if the devices tell them; `answer` is that of the run.
use Rattle.std.specs.Prelude.{◌≡◌, ℕ, ◌+◌, List, ⊤, length, Option, IfSome, Result, Ok, Err}
use Rattle.std.specs.Io.KnownBytes.{Appends, Keeps}
use Rattle.gtd_records.specs.File as record_file
use Rattle.gtd_records.specs.Closing.{Restriction}
use Rattle.gtd_records.specs.declared.fault.RecordFault.{RecordFault}
use Rattle.gtd_report.specs.Putting.{text_of}
use Rattle.gtd_report.specs.Run.{HasRun}
use Rattle.gtd_report.specs.Run as report
use Rattle.gtd_report.specs.declared.fault.RunFault.{RunFault}
use Rattle.gtd_report.specs.declared.fault.RunFault.TheVariants as run
use Rattle.gtd_ask.specs.Answers.{IsText}
use Rattle.gtd_ask.specs.Questions.{IsFile, IsOfFile}
use Rattle.gtd_ask.specs.declared.fault.AskFault.{AskFault}
use Rattle.gtd_ask.specs.declared.fault.AskFault.TheVariants as fault
use Rattle.gtd_ask.specs.declared.fault.QuestionFault.{QuestionFault}
use Rattle.gtd_ask.specs.declared.fault.QuestionFault.TheVariants as question
use Rattle.gtd_ask.specs.declared.question.Question.{Question}

-- The run had memory and input: the answer is not that memory was refused, or that an input was silent for 1,000 pulls in a
-- row.
abbrev pub HadMemoryAndInput : Result ℕ AskFault → Type 0
HadMemoryAndInput (Err (fault.Questions question.NoMemory)) = ⊥
HadMemoryAndInput (Err (fault.Questions question.Endless)) = ⊥
HadMemoryAndInput (Err (fault.Run why)) = report.HadMemoryAndInput (Err why)
HadMemoryAndInput answer = ⊤

-- the answer of the run over both files, for that of the run over the record file
abbrev pub answer_for : Result ℕ RunFault → Result ℕ AskFault
answer_for (Ok count) = Ok count
answer_for (Err why) = Err (fault.Run why)

-- The file has these questions, and over the record file a run did what it says of its answer.
pub record HasRunAfter (bytes : List ℕ) (records before after : Option (List ℕ)) (answer : Result ℕ RunFault) : Type 0 where
  pub asked : List Question
  pub file : IsFile bytes (Ok asked)
  pub ran : HasRun (λ found. ⊤) (λ found lines. IsText found asked lines) records before after answer

-- What the output took, by the answer; and, if the inputs tell their bytes, what they are.
abbrev pub HasAnswered : Option (List ℕ) → Option (List ℕ) → Option (List ℕ) → Option (List ℕ) → Result ℕ AskFault → Type 0
HasAnswered questions records before after (Ok count) =
    IfSome questions (λ bytes. HasRunAfter bytes records before after (Ok count))
HasAnswered questions records before after (Err (fault.Questions why)) =
    Keeps before after × (IsOfFile why → IfSome questions (λ bytes. IsFile bytes (Err why)))
HasAnswered questions records before after (Err (fault.Run why)) =
    IfSome questions (λ bytes. HasRunAfter bytes records before after (Err why))

-- Where the questions or the records are refused, nothing was put, even if an input does not tell its bytes.
abbrev pub KeepsRefused : Option (List ℕ) → Option (List ℕ) → Result ℕ AskFault → Type 0
KeepsRefused before after (Err (fault.Questions why)) = Keeps before after
KeepsRefused before after (Err (fault.Run (run.Records why))) = Keeps before after
KeepsRefused before after answer = ⊤

-- The output took the answers, and the answer is the number of their lines.
pub record PutsAnswers (asked : List Question) (found : List Restriction) (before after : Option (List ℕ))
    (answer : Result ℕ AskFault) : Type 0 where
  pub lines : List (List ℕ)
  pub is_text : IsText found asked lines
  pub taken : Appends before after (text_of lines)
  pub count : answer ≡ Ok (length lines)

-- The headline of a run that answers questions, whose devices did not fail, if it had memory and input: of a file of questions
-- and a record file the answers are printed, whole. If the questions are none, nothing is printed, and the answer is their first
-- fault; if only the records are none, it is that of the records.
pub record Headline (questions records : List ℕ) (before after : Option (List ℕ)) (answer : Result ℕ AskFault) : Type 0 where
  pub accepted : HadMemoryAndInput answer → (asked : List Question) (found : List Restriction) → IsFile questions (Ok asked)
      → record_file.IsFile records (Ok found) → PutsAnswers asked found before after answer
  pub questions_refused : HadMemoryAndInput answer → (why : QuestionFault) → IsFile questions (Err why)
      → (answer ≡ Err (fault.Questions why)) × Keeps before after
  pub records_refused : HadMemoryAndInput answer → (asked : List Question) (why : RecordFault) → IsFile questions (Ok asked)
      → record_file.IsFile records (Err why) → (answer ≡ Err (fault.Run (run.Records why))) × Keeps before after

-- The same, if both inputs tell their bytes.
abbrev pub HeadlineOf : Option (List ℕ) → Option (List ℕ) → Option (List ℕ) → Option (List ℕ) → Result ℕ AskFault → Type 0
HeadlineOf questions records before after answer =
    IfSome questions (λ a. IfSome records (λ b. Headline a b before after answer))

-- one more failure of the questions' input exactly if the answer is that it failed
abbrev pub failures_after_questions : {T : Type 0} → Result T QuestionFault → ℕ → ℕ
failures_after_questions (Err question.ReadFault) count = count + 1
failures_after_questions _ count = count

abbrev pub failures_after_asking : Result ℕ AskFault → ℕ → ℕ
failures_after_asking (Err (fault.Questions question.ReadFault)) count = count + 1
failures_after_asking answer count = count

-- the same of the records' input, and of the output
abbrev pub failures_after_read : Result ℕ AskFault → ℕ → ℕ
failures_after_read (Err (fault.Run why)) count = report.failures_after_read {T = ℕ} (Err why) count
failures_after_read answer count = count

abbrev pub failures_after_write : Result ℕ AskFault → ℕ → ℕ
failures_after_write (Err (fault.Run why)) count = report.failures_after_write {T = ℕ} (Err why) count
failures_after_write answer count = count
