-- What a run over two record files did, by its answer, and the claims about it.
--
-- `old` and `new` hold the bytes that the inputs still had to give, `before` and `after` those that the output had taken, if
-- the devices tell them; `answer` is that of the run.
use Rattle.std.specs.Prelude.{◌≡◌, ℕ, ◌+◌, List, ⊤, length, Option, IfSome, Result, Ok, Err}
use Rattle.std.specs.Io.KnownBytes.{Appends, Keeps}
use Rattle.gtd_core.specs.declared.horizon.Horizon.{Horizon}
use Rattle.gtd_records.specs.File.{IsFile, IsOfFile}
use Rattle.gtd_records.specs.Closing.{Restriction}
use Rattle.gtd_records.specs.declared.fault.RecordFault.{RecordFault}
use Rattle.gtd_records.specs.declared.fault.RecordFault.TheVariants as records
use Rattle.gtd_report.specs.Putting.{text_of}
use Rattle.gtd_report.specs.Run.{HasRun}
use Rattle.gtd_report.specs.Run as report
use Rattle.gtd_report.specs.declared.fault.RunFault.{RunFault}
use Rattle.gtd_report.specs.declared.fault.RunFault.TheVariants as run
use Rattle.gtd_changes.specs.Forms.{IsTextIn}
use Rattle.gtd_changes.specs.declared.form.Form.{Form}
use Rattle.gtd_changes.specs.declared.form.Form.TheVariants.{Intervals}
use Rattle.gtd_changes.specs.declared.fault.ChangesFault.{ChangesFault}
use Rattle.gtd_changes.specs.declared.fault.ChangesFault.TheVariants as fault

-- The run had memory and input: the answer is not that memory was refused, or that an input was silent for 1,000 pulls in a
-- row.
abbrev pub HadMemoryAndInput : Result ℕ ChangesFault → Type 0
HadMemoryAndInput (Err (fault.Old records.NoMemory)) = ⊥
HadMemoryAndInput (Err (fault.Old records.Endless)) = ⊥
HadMemoryAndInput (Err (fault.Run why)) = report.HadMemoryAndInput (Err why)
HadMemoryAndInput answer = ⊤

-- the answer of the run over both files, for that of the run over the new one
abbrev pub answer_for : Result ℕ RunFault → Result ℕ ChangesFault
answer_for (Ok count) = Ok count
answer_for (Err why) = Err (fault.Run why)

module _ (form : Form) (vehicle : ℕ) (horizon : Horizon) where
  -- The old file has these restrictions, and over the new one a run did what it says of its answer.
  pub record HasRunAfter (bytes : List ℕ) (new before after : Option (List ℕ)) (answer : Result ℕ RunFault) : Type 0 where
    pub was : List Restriction
    pub file : IsFile bytes (Ok was)
    pub ran : HasRun (λ found. ⊤) (λ found lines. IsTextIn form was found vehicle horizon lines) new before after answer

  -- What the output took, by the answer; and, if the inputs tell their bytes, what they are.
  abbrev pub HasComparedIn : Option (List ℕ) → Option (List ℕ) → Option (List ℕ) → Option (List ℕ) → Result ℕ ChangesFault
      → Type 0
  HasComparedIn old new before after (Ok count) = IfSome old (λ bytes. HasRunAfter bytes new before after (Ok count))
  HasComparedIn old new before after (Err (fault.Old why)) =
      Keeps before after × (IsOfFile why → IfSome old (λ bytes. IsFile bytes (Err why)))
  HasComparedIn old new before after (Err (fault.Run run.VehicleRange)) = Keeps before after
  HasComparedIn old new before after (Err (fault.Run why)) = IfSome old (λ bytes. HasRunAfter bytes new before after (Err why))

  -- The output took the changes from the one list of restrictions to the other, and the answer is the number of their lines.
  pub record PutsChanges (was found : List Restriction) (before after : Option (List ℕ))
      (answer : Result ℕ ChangesFault) : Type 0 where
    pub lines : List (List ℕ)
    pub is_text : IsTextIn form was found vehicle horizon lines
    pub taken : Appends before after (text_of lines)
    pub count : answer ≡ Ok (length lines)

  -- The headline of a run that puts changes, for a vehicle type from 1 to 99, whose devices did not fail, if it had memory and
  -- input: of two record files their changes are printed, whole. If the old file is none, nothing is printed, and the answer is
  -- its first fault; if only the new file is none, it is that of the new file.
  pub record Headline (old new : List ℕ) (before after : Option (List ℕ)) (answer : Result ℕ ChangesFault) : Type 0 where
    pub accepted : HadMemoryAndInput answer → (was found : List Restriction) → IsFile old (Ok was) → IsFile new (Ok found)
        → PutsChanges was found before after answer
    pub old_refused : HadMemoryAndInput answer → (why : RecordFault) → IsFile old (Err why)
        → (answer ≡ Err (fault.Old why)) × Keeps before after
    pub new_refused : HadMemoryAndInput answer → (was : List Restriction) (why : RecordFault) → IsFile old (Ok was)
        → IsFile new (Err why) → (answer ≡ Err (fault.Run (run.Records why))) × Keeps before after

  -- The same, if both inputs tell their bytes.
  abbrev pub HeadlineIn : Option (List ℕ) → Option (List ℕ) → Option (List ℕ) → Option (List ℕ) → Result ℕ ChangesFault → Type 0
  HeadlineIn old new before after answer =
      IfSome old (λ a. IfSome new (λ b. Headline a b before after answer))

-- Where the vehicle type or one of the files is refused, nothing was put, even if an input does not tell its bytes.
abbrev pub KeepsRefused : Option (List ℕ) → Option (List ℕ) → Result ℕ ChangesFault → Type 0
KeepsRefused before after (Err (fault.Old why)) = Keeps before after
KeepsRefused before after (Err (fault.Run run.VehicleRange)) = Keeps before after
KeepsRefused before after (Err (fault.Run (run.Records why))) = Keeps before after
KeepsRefused before after answer = ⊤

-- The same of a run that puts the intervals.
abbrev pub HasCompared : ℕ → Horizon → Option (List ℕ) → Option (List ℕ) → Option (List ℕ) → Option (List ℕ)
    → Result ℕ ChangesFault → Type 0
HasCompared = HasComparedIn Intervals

abbrev pub HeadlineOf : ℕ → Horizon → Option (List ℕ) → Option (List ℕ) → Option (List ℕ) → Option (List ℕ)
    → Result ℕ ChangesFault → Type 0
HeadlineOf = HeadlineIn Intervals

-- one more failure of the old file's input exactly if the answer is that it failed
abbrev pub failures_after_old : Result ℕ ChangesFault → ℕ → ℕ
failures_after_old (Err (fault.Old records.ReadFault)) count = count + 1
failures_after_old answer count = count

-- the same of the new file's input, and of the output
abbrev pub failures_after_new : Result ℕ ChangesFault → ℕ → ℕ
failures_after_new (Err (fault.Run why)) count = report.failures_after_read {T = ℕ} (Err why) count
failures_after_new answer count = count

abbrev pub failures_after_write : Result ℕ ChangesFault → ℕ → ℕ
failures_after_write (Err (fault.Run why)) count = report.failures_after_write {T = ℕ} (Err why) count
failures_after_write answer count = count
