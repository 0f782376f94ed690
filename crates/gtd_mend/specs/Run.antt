-- What mending a file did, by its answer.
use Rattle.std.specs.Prelude.{◌≡◌, ◌<◌, ◌+◌, ℕ, Bool, true, false, ⊤, List, length, Option, Result, Ok, Err}
use Rattle.std.specs.Io.KnownBytes.{Appends, Keeps}
use Rattle.gtd_core.specs.Limits.{most_file_bytes}
use Rattle.gtd_devices.specs.declared.whole.InputFault.{InputFault}
use Rattle.gtd_devices.specs.declared.whole.InputFault.TheVariants as input
use Rattle.gtd_faults.specs.Run.{TookSome}
use Rattle.gtd_report.specs.Putting.{text_of}
use Rattle.gtd_mend.specs.Mended.{IsMended}
use Rattle.gtd_mend.specs.declared.fault.MendFault.{MendFault}
use Rattle.gtd_mend.specs.declared.fault.MendFault.TheVariants as fault

-- some mended file of these bytes and its lines, of which this holds
pub record SomeMended (path bytes : List ℕ) (Holds : List ℕ → List (List ℕ) → Type 0) : Type 0 where
  pub mended : List ℕ
  pub lines : List (List ℕ)
  pub is_mended : IsMended path bytes mended lines
  pub holds : Holds mended lines

-- What the output took of the mended file, and the listing of the lines: all of both, and the answer is the number of lines;
-- a first part of the file and no line, if the output failed; the file and a first part of the lines, if the listing failed;
-- otherwise nothing.
abbrev pub HasMended : List ℕ → List ℕ → Option (List ℕ) → Option (List ℕ) → Option (List ℕ) → Option (List ℕ)
    → Result ℕ MendFault → Type 0
HasMended path bytes old new before after (Ok count) =
    SomeMended path bytes (λ mended lines. (count ≡ length lines) × Appends old new mended × Appends before after (text_of lines))
HasMended path bytes old new before after (Err fault.WriteFault) =
    SomeMended path bytes (λ mended lines. TookSome old new mended × Keeps before after)
HasMended path bytes old new before after (Err fault.ListingFault) =
    SomeMended path bytes (λ mended lines. Appends old new mended × TookSome before after (text_of lines))
HasMended path bytes old new before after (Err fault.TooLarge) =
    (most_file_bytes < length bytes) × Keeps old new × Keeps before after
HasMended path bytes old new before after (Err fault.ReadFault) = Keeps old new × Keeps before after
HasMended path bytes old new before after (Err fault.Endless) = Keeps old new × Keeps before after
HasMended path bytes old new before after (Err fault.NoMemory) = Keeps old new × Keeps before after

-- What the output and the listing took of these bytes and these lines: all of both, and the answer is this number; or a first
-- part, where one of them failed.
abbrev pub HasPut : List ℕ → List ℕ → ℕ → Option (List ℕ) → Option (List ℕ) → Option (List ℕ) → Option (List ℕ)
    → Result ℕ MendFault → Type 0
HasPut bytes lines number old new before after (Ok count) =
    (count ≡ number) × Appends old new bytes × Appends before after lines
HasPut bytes lines number old new before after (Err fault.WriteFault) = TookSome old new bytes × Keeps before after
HasPut bytes lines number old new before after (Err fault.ListingFault) = Appends old new bytes × TookSome before after lines
HasPut bytes lines number old new before after (Err why) = ⊥

-- one more failure, unless all was taken
abbrev pub failures_after_text : Bool → ℕ → ℕ
failures_after_text true count = count
failures_after_text false count = count + 1

-- nothing was put, or not all
abbrev pub IsAfterReading : MendFault → Type 0
IsAfterReading fault.ReadFault = ⊥
IsAfterReading fault.TooLarge = ⊥
IsAfterReading fault.Endless = ⊥
IsAfterReading why = ⊤

-- why a file is not mended, for a fault of the input
abbrev pub mend_fault_of : InputFault → MendFault
mend_fault_of input.ReadFault = fault.ReadFault
mend_fault_of input.TooLarge = fault.TooLarge
mend_fault_of input.Endless = fault.Endless
mend_fault_of input.NoMemory = fault.NoMemory

-- one more failure of the input exactly if the answer is that it failed
abbrev pub failures_after_reading : {T : Type 0} → Result T MendFault → ℕ → ℕ
failures_after_reading (Err fault.ReadFault) count = count + 1
failures_after_reading _ count = count

-- one more failure of the output exactly if the answer is that it failed
abbrev pub failures_after_writing : {T : Type 0} → Result T MendFault → ℕ → ℕ
failures_after_writing (Err fault.WriteFault) count = count + 1
failures_after_writing _ count = count

-- the same of the listing
abbrev pub failures_after_listing : {T : Type 0} → Result T MendFault → ℕ → ℕ
failures_after_listing (Err fault.ListingFault) count = count + 1
failures_after_listing _ count = count
