-- What a run over a record file did, by its answer, and the claims about it. A run is for a kind of texts: which
-- restrictions have a text, and which text that is. A text is given by its lines.
use Rattle.std.specs.Prelude.{◌≡◌, ◌≤◌, ℕ, ◌+◌, List, length, take, ⊤, Option, IfSome, Result, Ok, Err, ◌<◌, Any}
use Rattle.std.specs.Io.KnownBytes.{Appends, Keeps}
use Rattle.gtd_records.specs.File.{IsFile, IsOfFile}
use Rattle.gtd_records.specs.Closing.{Restriction}
use Rattle.gtd_records.specs.declared.fault.RecordFault.{RecordFault}
use Rattle.gtd_records.specs.declared.fault.RecordFault.TheVariants as records
use Rattle.gtd_report.specs.Putting.{text_of}
use Rattle.gtd_report.specs.declared.fault.RunFault.{RunFault}
use Rattle.gtd_report.specs.declared.fault.RunFault.TheVariants as fault
use Rattle.gtd_report.specs.declared.subject.Subject.{Subject}

-- a vehicle type: from 1 to 99
abbrev pub IsVehicleType : ℕ → Type 0
IsVehicleType vehicle = (0 < vehicle) × (vehicle ≤ 99)

-- a year that a table may have
abbrev pub IsTableYear : ℕ → Type 0
IsTableYear year = (1901 ≤ year) × (year ≤ 2199)

-- If a vehicle type is asked for, it is one.
abbrev pub IsVehicleInRange : Subject → Type 0
IsVehicleInRange subject = IfSome subject.vehicle IsVehicleType

-- If a year is asked for, a table may have it.
abbrev pub IsYearInRange : Subject → Type 0
IsYearInRange subject = IfSome subject.year IsTableYear

-- If an element is asked for, some restriction names it.
abbrev pub IsAccepted : Subject → List Restriction → Type 0
IsAccepted subject found = IfSome subject.element (λ element. Any (λ (r : Restriction). r.element ≡ element) found)

-- The run had memory and input: the answer is not that memory was refused, or that the input was silent for 1,000 pulls in
-- a row. Whether a device failed is not asked of the answer, but of the failures that the device counts.
abbrev pub HadMemoryAndInput : Result ℕ RunFault → Type 0
HadMemoryAndInput (Err (fault.Records records.NoMemory)) = ⊥
HadMemoryAndInput (Err (fault.Records records.Endless)) = ⊥
HadMemoryAndInput (Err (fault.NoMemory written)) = ⊥
HadMemoryAndInput answer = ⊤

-- The output took one text of this kind, and the answer is the number of its lines.
pub record PutsWhole (IsText : List (List ℕ) → Type 0) (old new : Option (List ℕ)) (answer : Result ℕ RunFault) : Type 0 where
  pub lines : List (List ℕ)
  pub is_text : IsText lines
  pub taken : Appends old new (text_of lines)
  pub count : answer ≡ Ok (length lines)

-- The answer is the number of lines of a text of this kind.
abbrev pub IsLineCount : (List Restriction → List (List ℕ) → Type 0) → ℕ → Type 0
IsLineCount IsText count = (found : List Restriction) × (lines : List (List ℕ)) × IsText found lines × (count ≡ length lines)

-- The output took exactly the first n bytes of the text.
abbrev pub TookFirst : Option (List ℕ) → Option (List ℕ) → ℕ → List ℕ → Type 0
TookFirst old new n text = (n ≤ length text) × Appends old new (take n text)

module _ (Accepted : List Restriction → Type 0) (IsText : List Restriction → List (List ℕ) → Type 0) where
  -- The bytes are an accepted file, and the output took the first n bytes of its text.
  pub record TookFirstOf (bytes : List ℕ) (old new : Option (List ℕ)) (n : ℕ) : Type 0 where
    pub found : List Restriction
    pub file : IsFile bytes (Ok found)
    pub accepted : Accepted found
    pub first : (lines : List (List ℕ)) → IsText found lines → TookFirst old new n (text_of lines)

  -- The bytes are an accepted file, whose text was put.
  pub record PutsTextOf (bytes : List ℕ) (old new : Option (List ℕ)) (answer : Result ℕ RunFault) : Type 0 where
    pub found : List Restriction
    pub file : IsFile bytes (Ok found)
    pub accepted : Accepted found
    pub puts : PutsWhole (IsText found) old new answer

  -- What the output took, by the answer; and, if the input tells its bytes, what they are.
  abbrev pub HasRun : Option (List ℕ) → Option (List ℕ) → Option (List ℕ) → Result ℕ RunFault → Type 0
  HasRun file old new (Ok count) = IfSome file (λ bytes. PutsTextOf bytes old new (Ok count))
  HasRun file old new (Err fault.VehicleRange) = Keeps old new
  HasRun file old new (Err fault.YearRange) = Keeps old new
  HasRun file old new (Err (fault.Records why)) = Keeps old new × (IsOfFile why → IfSome file (λ bytes. IsFile bytes (Err why)))
  HasRun file old new (Err fault.NoElement) =
      Keeps old new × IfSome file (λ bytes. (found : List Restriction) × IsFile bytes (Ok found) × (Accepted found → ⊥))
  HasRun file old new (Err (fault.WriteFault n)) = IfSome file (λ bytes. TookFirstOf bytes old new n)
  HasRun file old new (Err (fault.NoMemory n)) = IfSome file (λ bytes. TookFirstOf bytes old new n)

  -- The first claim, of a run whose devices did not fail: if the bytes are an accepted file, its text is put whole.
  abbrev pub AcceptedFilesArePut : Option (List ℕ) → Option (List ℕ) → Option (List ℕ) → Result ℕ RunFault → Type 0
  AcceptedFilesArePut file old new answer = HadMemoryAndInput answer
      → IfSome file (λ bytes. (found : List Restriction) → IsFile bytes (Ok found) → Accepted found
      → PutsWhole (IsText found) old new answer)

-- The second claim, of a run whose devices did not fail: if the bytes are not a record file, its answer is their first
-- fault, and the output took nothing.
abbrev pub RefusedFilesPutNothing : Option (List ℕ) → Option (List ℕ) → Option (List ℕ) → Result ℕ RunFault → Type 0
RefusedFilesPutNothing file old new answer = HadMemoryAndInput answer
    → IfSome file (λ bytes. (why : RecordFault) → IsFile bytes (Err why)
    → (answer ≡ Err (fault.Records why)) × Keeps old new)

-- The third claim, of a run whose devices did not fail: if the bytes are a record file whose restrictions are not accepted,
-- its answer is that no record names the element, and the output took nothing.
abbrev pub UnacceptedFilesPutNothing : (List Restriction → Type 0) → Option (List ℕ) → Option (List ℕ) → Option (List ℕ)
    → Result ℕ RunFault → Type 0
UnacceptedFilesPutNothing Accepted file old new answer = HadMemoryAndInput answer
    → IfSome file (λ bytes. (found : List Restriction) → IsFile bytes (Ok found) → (Accepted found → ⊥)
    → (answer ≡ Err fault.NoElement) × Keeps old new)

-- one more failure of the input exactly if the answer is that it failed
abbrev pub failures_after_read : {T : Type 0} → Result T RunFault → ℕ → ℕ
failures_after_read (Err (fault.Records records.ReadFault)) count = count + 1
failures_after_read _ count = count

-- one more failure of the output exactly if the answer is that it failed
abbrev pub failures_after_write : {T : Type 0} → Result T RunFault → ℕ → ℕ
failures_after_write (Err (fault.WriteFault n)) count = count + 1
failures_after_write _ count = count

-- No failure is counted: a count is after the run what it was before.
abbrev pub CountsNone : (ℕ → ℕ) → Type 0
CountsNone failures_after = (count : ℕ) → failures_after count ≡ count
