-- What a command that reads a record file prints, and why it is refused.
use Rattle.std.specs.Prelude.{◌≡◌, ◌↔◌, ◌⊎◌, ⊤, ℕ, ◌+◌, Bool, List, Option, IfSome, MatchOption, IsTrue, IsErrOf}
use Rattle.std.specs.Prelude.{Result, Ok, Err, codes, ◌++◌}
use Rattle.std.specs.Io.KnownBytes.{Appends}
use Rattle.gtd_roads.specs.File.{IsFile}
use Rattle.gtd_roads.specs.File.{IsOfFile}
use Rattle.gtd_roads.specs.Closing.{Restriction}
use Rattle.gtd_roads.specs.RecordFault.{RecordFault}
use Rattle.gtd_roads.specs.RecordFault.TheVariants as records
use Rattle.gtd_roads.specs.Putting.{text_of}
use Rattle.gtd_roads.specs.Run.{AcceptedFilesArePut, HasRun, RefusedFilesPutNothing, UnacceptedFilesPutNothing}
use Rattle.gtd_roads.specs.Run.{CountsNone, failures_after_read, failures_after_write}
use Rattle.gtd_roads.specs.Run as subjects
use Rattle.gtd_roads.specs.RunFault.{RunFault}
use Rattle.gtd_roads.specs.RunFault.TheVariants as run
use Rattle.gtd_roads.specs.Subject.{Subject}
use Rattle.gtd_tool.specs.Asked.{Asked}
use Rattle.gtd_tool.specs.Commands.{file_of, task_of}
use Rattle.gtd_tool.specs.Printed.{AppendsLine, AsksPastYears, IsAnswer, TakesMemory}
use Rattle.gtd_tool.specs.Writing.{AppendsPart}
use Rattle.gtd_tool.specs.declared.refusal.Refusal.{Refusal}
use Rattle.gtd_tool.specs.declared.refusal.Refusal.TheVariants as refusal

-- ---- what is asked of a file

-- The command reads a record file.
abbrev pub ReadsFile : Asked → Type 0
ReadsFile asked = MatchOption (file_of asked) ⊥ (λ path. ⊤)

-- The fact holds if the command reads a record file; for `IfAlone`, if it reads none.
abbrev pub IfFile : Asked → Type 0 → Type 0
IfFile asked P = MatchOption (file_of asked) ⊤ (λ path. P)

abbrev pub IfAlone : Asked → Type 0 → Type 0
IfAlone asked P = MatchOption (file_of asked) P (λ path. ⊤)

-- What a report of the file is asked about.
abbrev pub subject_of : Asked → Subject
subject_of asked = (task_of asked).subject

-- If a vehicle type is asked for, it is from 1 to 99.
abbrev pub IsVehicleInRange : Asked → Type 0
IsVehicleInRange asked = subjects.IsVehicleInRange (subject_of asked)

-- An element is asked for.
abbrev pub AsksOfElement : Asked → Type 0
AsksOfElement asked = MatchOption (subject_of asked).element ⊥ (λ element. ⊤)

-- If a year is asked for, it is from 1901 to 2199.
abbrev pub IsYearInRange : Asked → Type 0
IsYearInRange asked = subjects.IsYearInRange (subject_of asked)

-- A text is printed for these restrictions: the table of a year needs one that names the element.
abbrev pub IsAccepted : Asked → List Restriction → Type 0
IsAccepted asked found = subjects.IsAccepted (subject_of asked) found

-- The lines of the text that is printed of these restrictions.
abbrev pub IsText : Asked → List Restriction → List (List ℕ) → Type 0
IsText asked found lines = (task_of asked).is_text found lines

-- ---- what is printed

-- The writer's known bytes grew by a text of these restrictions.
pub record AppendsTextOf (asked : Asked) (found : List Restriction) (old new : Option (List ℕ)) : Type 0 where
  pub lines : List (List ℕ)
  pub is_text : IsText asked found lines
  pub grown : Appends old new (text_of lines)

-- The bytes are a record file, and the writer's known bytes grew by a text of its restrictions.
pub record AppendsTextOfFile (asked : Asked) (bytes : List ℕ) (old new : Option (List ℕ)) : Type 0 where
  pub found : List Restriction
  pub file : IsFile bytes (Ok found)
  pub accepted : IsAccepted asked found
  pub text : AppendsTextOf asked found old new

-- What was printed: the line of an answer; or, by a command that reads a file, a text of the file, if its bytes are
-- known.
abbrev pub IsPrinted : Asked → Option (List ℕ) → Option (List ℕ) → Option (List ℕ) → Type 0
IsPrinted asked file old new =
    MatchOption (file_of asked) (AppendsLine (IsAnswer asked) old new)
    (λ path. IfSome file (λ bytes. AppendsTextOfFile asked bytes old new))

-- A first part of each line that could be the answer's.
abbrev pub IsPartOfLine : Asked → Option (List ℕ) → Option (List ℕ) → Type 0
IsPartOfLine asked old new =
    (answer : List ℕ) → IsAnswer asked answer → AppendsPart old new (answer ++ codes "\n")

-- A first part of each text that could be the file's.
abbrev pub IsPartOfText : Asked → List ℕ → Option (List ℕ) → Option (List ℕ) → Type 0
IsPartOfText asked bytes old new =
    (found : List Restriction) → IsFile bytes (Ok found) → (lines : List (List ℕ)) → IsText asked found lines
    → AppendsPart old new (text_of lines)

-- What was printed is a first part, maybe none or all, of what is to be printed.
abbrev pub IsPartPrinted : Asked → Option (List ℕ) → Option (List ℕ) → Option (List ℕ) → Type 0
IsPartPrinted asked file old new =
    MatchOption (file_of asked) (IsPartOfLine asked old new)
    (λ path. IfSome file (λ bytes. IsPartOfText asked bytes old new))

-- ---- why a command is refused

-- Why a record file is not read: the input failed, or fell silent, or, if its bytes are known, this is their first
-- fault.
abbrev pub IsUnread : Option (List ℕ) → Bool → RecordFault → Type 0
IsUnread file silent records.NoMemory = ⊥
IsUnread file silent records.ReadFault = ⊤
IsUnread file silent records.Endless = IsTrue silent
IsUnread file silent why = IfSome file (λ bytes. IsFile bytes (Err why))

-- The bytes are a record file for which no text is printed.
abbrev pub IsLacking : Asked → List ℕ → Type 0
IsLacking asked bytes = (found : List Restriction) × IsFile bytes (Ok found) × (IsAccepted asked found → ⊥)

-- The bytes are not a record file, or are one for which no text is printed.
abbrev pub IsRefusedFile : Asked → List ℕ → Type 0
IsRefusedFile asked bytes = ((why : RecordFault) × IsFile bytes (Err why)) ⊎ IsLacking asked bytes

-- The bytes are a record file for which a text is printed.
abbrev pub IsAcceptedFile : Asked → List ℕ → Type 0
IsAcceptedFile asked bytes = (found : List Restriction) × IsFile bytes (Ok found) × IsAccepted asked found

-- Why a command is refused while it is carried out. Nothing is written before the file is accepted.
abbrev pub IsCause : Asked → Option (List ℕ) → Bool → Refusal → Type 0
IsCause asked file silent refusal.Write = IfFile asked (IfSome file (λ bytes. IsAcceptedFile asked bytes))
IsCause asked file silent refusal.Memory = TakesMemory asked
IsCause asked file silent refusal.HasYear = AsksPastYears asked
IsCause asked file silent refusal.VehicleRange = IsVehicleInRange asked → ⊥
IsCause asked file silent refusal.YearRange = IsVehicleInRange asked × (IsYearInRange asked → ⊥)
IsCause asked file silent (refusal.Records why) = ReadsFile asked × IsUnread file silent why
IsCause asked file silent refusal.NoElement = AsksOfElement asked × IfSome file (λ bytes. IsLacking asked bytes)
IsCause asked file silent r = ⊥

-- Nothing hindered the command: neither device failed, no memory was refused, and the input was not silent for 1,000
-- pulls in a row.
abbrev pub IsUnhindered : Result (Unit {0}) Refusal → Type 0
IsUnhindered (Err (refusal.Records why)) = IsOfFile why
IsUnhindered (Err refusal.Write) = ⊥
IsUnhindered (Err refusal.Memory) = ⊥
IsUnhindered result = ⊤

-- What is asked for is in its ranges, nothing hindered the command, and the bytes of its file are known.
abbrev pub IfRead : Asked → Option (List ℕ) → Result (Unit {0}) Refusal → (List ℕ → Type 0) → Type 0
IfRead asked file result P =
    ReadsFile asked → IsVehicleInRange asked → IsYearInRange asked → IsUnhindered result → IfSome file P

-- one more failure of the input exactly if the refusal is that it failed
abbrev pub failures_after : Result (Unit {0}) Refusal → ℕ → ℕ
failures_after (Err (refusal.Records records.ReadFault)) count = count + 1
failures_after result count = count

-- ---- from the answer of a run to that of a command

-- The refusal for a fault of a run.
abbrev pub refusal_for : RunFault → Refusal
refusal_for run.VehicleRange = refusal.VehicleRange
refusal_for run.YearRange = refusal.YearRange
refusal_for (run.Records records.NoMemory) = refusal.Memory
refusal_for (run.Records why) = refusal.Records why
refusal_for run.NoElement = refusal.NoElement
refusal_for (run.WriteFault written) = refusal.Write
refusal_for (run.NoMemory written) = refusal.Memory

-- The answer of a command, from that of its run.
abbrev pub outcome_of : Result ℕ RunFault → Result (Unit {0}) Refusal
outcome_of (Ok count) = Ok tt
outcome_of (Err fault) = Err (refusal_for fault)

-- The run of a report had an answer, and all that the run promises for this answer holds.
pub record RanReport (subject : Subject) (Text : List Restriction → List (List ℕ) → Type 0) (file old new : Option (List ℕ))
    (silent : Bool) (before after : ℕ) (result : Result (Unit {0}) Refusal) : Type 0 where
  pub answer : Result ℕ RunFault
  pub outcome : result ≡ outcome_of answer
  pub accepted : subjects.IsVehicleInRange subject → subjects.IsYearInRange subject
      → CountsNone (failures_after_read answer) → CountsNone (failures_after_write answer)
      → AcceptedFilesArePut (subjects.IsAccepted subject) Text file old new answer
  pub refused : subjects.IsVehicleInRange subject → subjects.IsYearInRange subject
      → CountsNone (failures_after_read answer) → CountsNone (failures_after_write answer)
      → RefusedFilesPutNothing file old new answer
  pub unnamed : subjects.IsVehicleInRange subject → subjects.IsYearInRange subject
      → CountsNone (failures_after_read answer) → CountsNone (failures_after_write answer)
      → UnacceptedFilesPutNothing (subjects.IsAccepted subject) file old new answer
  pub stands : HasRun (subjects.IsAccepted subject) Text file old new answer
  pub vehicle : IsErrOf answer run.VehicleRange ↔ (subjects.IsVehicleInRange subject → ⊥)
  pub year : IsErrOf answer run.YearRange ↔ (subjects.IsVehicleInRange subject × (subjects.IsYearInRange subject → ⊥))
  pub element : IsErrOf answer run.NoElement → MatchOption subject.element ⊥ (λ element. ⊤)
  pub endless : IsErrOf answer (run.Records records.Endless) → IsTrue silent
  pub failures : after ≡ failures_after_read answer before

-- The same for the report that is asked for.
abbrev pub Ran : Asked → Option (List ℕ) → Option (List ℕ) → Option (List ℕ) → Bool → ℕ → ℕ → Result (Unit {0}) Refusal → Type 0
Ran asked file old new silent before after result =
    RanReport (subject_of asked) (IsText asked) file old new silent before after result
